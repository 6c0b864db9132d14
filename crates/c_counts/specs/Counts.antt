-- What the exported functions of count ranges and angles answer.
-- Assumes nothing.
use Rattle.std.specs.Prelude.{ℕ, Bool, cond, ◌||◌, eqb}
use Rattle.counts.specs.Sums.{added}
use Rattle.counts.specs.declared.Range.{Range}
use Rattle.angles.specs.Angles.{angle_at, has_bin}
use Rattle.c_answers.specs.Answers.{no_such_bin}

-- the divisors of include/lpmag.h
abbrev pub is_divisor : ℕ → Bool
is_divisor d = eqb d 1 || (eqb d 8 || eqb d 16)

abbrev pub range_from : ℕ → ℕ → Range
range_from l h = record { low = l; high = h }

abbrev pub sum_of : ℕ → ℕ → ℕ → ℕ → Range
sum_of l h k i = added (range_from l h) (range_from k i)

-- an angle, or "no such bin"
abbrev pub angle_number : ℕ → ℕ → ℕ
angle_number a p = cond (has_bin a p) (angle_at a p) no_such_bin
