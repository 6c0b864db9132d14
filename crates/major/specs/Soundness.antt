-- The major frame's part of the state list (01, "Numbers a refused record gets"), clause by clause.
-- Assumes nothing.
use Rattle.std.specs.Prelude.{ℕ, Bool, not, ◌&&◌, ◌||◌, eqb, leb, get_or}
use Rattle.prelude.specs.Marks.{bit_set, highest}
use Rattle.prelude.specs.Upto.{upto}
use Rattle.clock.specs.Clock.{begun}
use Rattle.clock.specs.declared.Clock.{Clock}
use Rattle.major.specs.Major.{major_number, slot_of}
use Rattle.major.specs.declared.Major.{Major}

-- "MAG slots among the slots"
abbrev pub mag_among : ℕ → ℕ → ℕ → Bool
mag_among slots mags i = not (bit_set mags i) || bit_set slots i

-- "Ranges are 0 to 7"
abbrev pub range_fits : ℕ → Bool
range_fits range = leb range 7

-- "ranges of MAG slots not held and subcom words of slots not held are 0"
abbrev pub range_kept : ℕ → ℕ → ℕ → Bool
range_kept mags range i = bit_set mags i || eqb range 0

abbrev pub word_kept : ℕ → ℕ → ℕ → Bool
word_kept slots word i = bit_set slots i || eqb word 0

-- the four clauses about slot i, with its range and its word
unfoldable pub slot_test : ℕ → ℕ → ℕ → ℕ → ℕ → Bool
slot_test slots mags range word i = mag_among slots mags i && (range_fits range && (range_kept mags range i && word_kept slots word i))

unfoldable pub slot_holds : Major → ℕ → Bool
slot_holds m i = slot_test m.slots m.mag_slots (get_or m.ranges i 0) (get_or m.words i 0) i

unfoldable pub slots_hold : Major → Bool
slots_hold m = upto (slot_holds m) 16

-- "if any slot is held, the open major number and the highest slot held are those of the last accepted count"
unfoldable pub major_now : Clock → Major → Bool
major_now c m = eqb m.slots 0 || (eqb m.number (major_number c.last) && highest m.slots (slot_of c.last))

-- "with no slot held, the open major number is 0"
unfoldable pub no_slot : Major → Bool
no_slot m = not (eqb m.slots 0) || eqb m.number 0

-- "Until something is accepted, all is 0": no slot is held, and so the other numbers are 0 too. "An open major frame [holds] at
-- least one slot" is what open means here
unfoldable pub major_sound : Clock → Major → Bool
major_sound c m = slots_hold m && (major_now c m && (no_slot m && begun c m.slots))
