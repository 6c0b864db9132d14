-- The place asked for, and what the byte there means.
-- Assumes nothing.
use Rattle.std.specs.Prelude.{ℕ, cond, List, get_or, Option, Some, None, Result}
use Rattle.counts.specs.declared.Range.{Range}
use Rattle.counts.specs.declared.codes.Divided.{Divided}
use Rattle.cells.specs.Bytes.{raw_of}
use Rattle.cells.specs.declared.missing.Missing.{Missing}
use Rattle.electrons.specs.Meaning.{meaning}
use Rattle.electrons.specs.declared.questions.Unknown.{Unknown}
use Rattle.snapshots.specs.Questions.{has_angle, angle_byte}
use Rattle.snapshots.specs.Raw.{is_byte, holds_byte}

-- a place, where there is one
abbrev pub angle_place : ℕ → ℕ → ℕ → ℕ → Option ℕ
angle_place from angles e a = cond (has_angle angles e a) (Some (angle_byte from angles e a)) None

-- the byte at a place, or why there is none
abbrev pub raw_byte : List ℕ → ℕ → ℕ → Result ℕ Missing
raw_byte s held p = raw_of (is_byte s held p) (holds_byte held p) (get_or s p 0)

abbrev pub counted_at : List ℕ → ℕ → ℕ → Divided → Result Range Unknown
counted_at s held p d = meaning (raw_byte s held p) (Some d)
