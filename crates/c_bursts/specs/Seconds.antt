-- What the exported functions about a burst's MAG answer.
-- Assumes nothing.
use Rattle.std.specs.Prelude.{ℕ, Bool, cond, ◌&&◌, List, ◌≡◌, eqb, leb, ℤ, length}
use Rattle.mag.specs.Samples.{samples_size, range, samples}
use Rattle.burst_mag.specs.Seconds.{has_burst_mag, mag_of}
use Rattle.c_answers.specs.Answers.{nowhere}

-- burst packet `which` of a record, 0 for the first and 1 for the second: whether it is there and is MAG, and its bytes
abbrev pub has_which : List ℕ → ℕ → Bool
has_which r which = leb which 1 && has_burst_mag r (eqb which 1)

abbrev pub mag_which : List ℕ → ℕ → List ℕ
mag_which r which = mag_of r (eqb which 1)

abbrev pub burst_range : List ℕ → ℕ → ℕ
burst_range r which = cond (has_which r which) (range (mag_which r which)) nowhere

-- the range and the samples, or "no such place" and the room as found
pub record BurstSamplesGiven (r : List ℕ) (which : ℕ) (room : List ℤ) (n : ℕ) (room' : List ℤ) : Type 0 where
  pub number : n ≡ cond (has_which r which && eqb (length room) samples_size) (range (mag_which r which)) nowhere
  pub written : room' ≡ cond (has_which r which && eqb (length room) samples_size) (samples (mag_which r which)) room
