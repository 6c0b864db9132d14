-- The counts of a snapshot (02, request 2; 000, section 2.4.1): as those of an accumulation, but "the burst pitch angle data is not
-- pre-scaled", so that no answer is "scale unknown".
-- Assumes nothing.
use Rattle.std.specs.Prelude.{ℕ, ◌+◌, ◌*◌, Bool, true, ◌&&◌, List, ltb, get_or}
use Rattle.counts.specs.declared.codes.Divided.{Divided}
use Rattle.counts.specs.declared.codes.Divided.TheVariants.{By1, By16}
use Rattle.bursts.specs.Bursts.{three_part, pitch_part}
use Rattle.electrons.specs.Questions.{Asked, count_asked}
use Rattle.snapshots.specs.Raw.{holds_byte, askable}

-- the count at place p, asked for by numbers that the test says to be in their bounds
abbrev pub asked_at : Bool → ℕ → Divided → List ℕ → ℕ → Asked
asked_at inBounds p d s held = count_asked (askable s held && inBounds) (holds_byte held p) (get_or s p 0) d

-- 15 energy steps, "in ascending energy step number order", each of so many angles
abbrev pub has_angle : ℕ → ℕ → ℕ → Bool
has_angle angles e a = ltb e 15 && ltb a angles

abbrev pub angle_byte : ℕ → ℕ → ℕ → ℕ → ℕ
angle_byte from angles e a = from + angles * e + a

-- "The 1320 bytes of 3D data are in the same format as described in section 2.3.2": 88 angles a step
abbrev pub three_asked : List ℕ → ℕ → ℕ → ℕ → Asked
three_asked s held e b = asked_at (has_angle 88 e b) (angle_byte three_part.at 88 e b) By1 s held

-- "16 pitch angle samples for each of 15 energies"
abbrev pub pitch_asked : List ℕ → ℕ → ℕ → ℕ → Asked
pitch_asked s held e a = asked_at (has_angle 16 e a) (angle_byte pitch_part.at 16 e a) By1 s held

-- "The ER Header is in the same format": Total and Rate, header bytes 2 and 3, divided by 16
abbrev pub header_asked : ℕ → List ℕ → ℕ → Asked
header_asked p s held = asked_at true p By16 s held
