-- One answer: any two outcomes that a promise allows are equal. All four questions promise `CountIs`.
-- Assumes nothing.
use mathlib.Core.Path.{◌≡◌}
use Rattle.std.specs.Prelude.{Result}
use Rattle.counts.specs.declared.Range.{Range}
use Rattle.electrons.specs.Questions.{Asked, CountIs}
use Rattle.electrons.specs.declared.questions.Unknown.{Unknown}

pub one_count : (q : Asked) (x y : Result Range Unknown) → CountIs q x → CountIs q y → x ≡ y
one_count q x y p r = cc
