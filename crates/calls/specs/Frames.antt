-- What the questions about a finished major frame answer over C's struct; its spare field has no part in it.
-- Assumes nothing.
use Rattle.std.specs.Prelude.{ℕ, List, ◌≡◌, ltb, Float, ℤ, get_or}
use Rattle.mag.specs.Field.{FieldIs}
use Rattle.major.specs.Major.{slots}
use Rattle.majors.specs.Questions.{stored, has_stored, has_nominal, mag_held, slot_held, field_at}
use Rattle.shapes.specs.Frames.{major_in}
use Rattle.shapes.specs.declared.frames.CMajor.{CMajor}
use Rattle.c_answers.specs.Answers.{ValueGiven}

abbrev pub WordGiven : CMajor → ℕ → ℕ → ℕ → ℕ → Type 0
WordGiven c s = ValueGiven (ltb s slots) (slot_held (major_in c) s) (get_or c.words s 0)

abbrev pub SampleGiven : CMajor → List ℤ → ℕ → ℕ → ℤ → ℕ → ℤ → Type 0
SampleGiven c samples s k = ValueGiven (has_stored samples s k) (mag_held (major_in c) s) (stored samples s k)

-- a field where it has a place and is held; one that is given is exact
pub record NominalGiven (c : CMajor) (samples : List ℤ) (s k : ℕ) (old : Float) (n : ℕ) (new : Float) : Type 0 where
  pub given : ValueGiven (has_nominal (major_in c) samples s k) (mag_held (major_in c) s) (field_at (major_in c) samples s k) old n new
  pub exact : n ≡ 0 → FieldIs (stored samples s k) (get_or c.ranges s 0) new
