-- What the exported functions of the magnetometer answer.
-- Assumes nothing.
use Rattle.std.specs.Prelude.{true, cond, ℕ, List, ◌≡◌, Float, ℤ}
use Rattle.mag.specs.Samples.{range, samples, mag_sized, both_sized}
use Rattle.mag.specs.Field.{field_of, has_field, FieldIs}
use Rattle.c_answers.specs.Answers.{nowhere}

abbrev pub range_number : List ℕ → ℕ
range_number m = cond (mag_sized m) (range m) nowhere

-- the range and the samples, or "no such place" and the room as found
pub record SamplesGiven (m : List ℕ) (room : List ℤ) (n : ℕ) (room' : List ℤ) : Type 0 where
  pub number : n ≡ cond (both_sized m room) (range m) nowhere
  pub written : room' ≡ cond (both_sized m room) (samples m) room

-- the field, or "no such place" and the number lent as found; the field is exact
pub record FieldGiven (z : ℤ) (r : ℕ) (x : Float) (n : ℕ) (x' : Float) : Type 0 where
  pub number : n ≡ cond (has_field z r) 0 nowhere
  pub written : x' ≡ cond (has_field z r) (field_of z r) x
  pub exact : has_field z r ≡ true → FieldIs z r x'
