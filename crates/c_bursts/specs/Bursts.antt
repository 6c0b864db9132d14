-- What the exported functions about a snapshot answer. (Those about counts promise `AskedGiven` of c_answers.)
-- Assumes nothing.
use Rattle.std.specs.Prelude.{ℕ, List, get_or}
use Rattle.snapshots.specs.Raw.{holds_byte, is_byte, mag_angle_byte, is_mag_angle}
use Rattle.c_answers.specs.Answers.{ValueGiven}

-- a byte of the snapshot, or the number lent as found
abbrev pub ByteGiven : List ℕ → ℕ → ℕ → ℕ → ℕ → ℕ → Type 0
ByteGiven s held p = ValueGiven (is_byte s held p) (holds_byte held p) (get_or s p 0)

-- a byte of the magnetic samples, or the number lent as found
abbrev pub MagAngleGiven : List ℕ → ℕ → ℕ → ℕ → ℕ → ℕ → Type 0
MagAngleGiven s held k = ValueGiven (is_mag_angle s held k) (holds_byte held (mag_angle_byte k)) (get_or s (mag_angle_byte k) 0)
