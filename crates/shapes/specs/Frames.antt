-- A major frame as C has it (include/lpmag.h, "structs").
-- Assumes nothing.
use Rattle.std.specs.Prelude.{ℕ, Bool, cond}
use Rattle.major.specs.declared.Major.{Major}
use Rattle.shapes.specs.declared.frames.CMajor.{CMajor}

-- 1 for true, else 0
abbrev pub flag : Bool → ℕ
flag b = cond b 1 0

abbrev pub major_in : CMajor → Major
major_in c = record { number = c.number; words = c.words; ranges = c.ranges; slots = c.slots; mag_slots = c.mag_slots }

abbrev pub major_out : Major → CMajor
major_out m = record { number = m.number; words = m.words; ranges = m.ranges; slots = m.slots; mag_slots = m.mag_slots; spare32 = 0 }
