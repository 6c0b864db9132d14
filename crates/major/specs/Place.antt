-- What a step of this room answers where what it is handed is out of place: so it asks nothing of its caller. In every state that
-- passes the list, and for every later record, it is in place (`is_free` in proofs/Facts.antt).
-- Assumes nothing.
use Rattle.std.specs.Prelude.{ℕ, ◌/◌, ◌^◌, ◌<◌, ◌≤◌, Bool, true, false, cond, ◌&&◌, ◌≡◌, eqb, None}
use Rattle.prelude.specs.Marks.{bit_set}
use Rattle.buffers.specs.Working.{no_work}
use Rattle.major.specs.Major.{slot_of, slots, slot_work, continues, stays, major_renews, step_major}
use Rattle.major.specs.declared.Major.{Major}
use Rattle.major.specs.declared.MajorStep.{MajorStep}

-- no slot from that of count d on is held, with MAG or without
unfoldable pub slot_free : Major → ℕ → Bool
slot_free m d = eqb (m.slots / 2 ^ slot_of d) 0 && eqb (m.mag_slots / 2 ^ slot_of d) 0

-- nothing is done
abbrev pub leaves : Major → MajorStep
leaves m = record { next = m; report = None; work = slot_work no_work 0 }

unfoldable pub stepped_at : Major → ℕ → Bool → ℕ → ℕ → MajorStep
stepped_at m d mag range word =
    cond (continues m d) (cond (slot_free m d) (stays m d mag range word) (leaves m)) (major_renews m d mag range word)

-- no slot from that of count d on is held, mark by mark
abbrev pub Free : Major → ℕ → Type 0
Free m d = (m.slots < 2 ^ slot_of d) × ((i : ℕ) → slot_of d ≤ i → i < slots → bit_set m.mag_slots i ≡ false)

-- the answer; and where there is room it is `step_major`
pub record SteppedIs (m : Major) (d : ℕ) (mag : Bool) (range word : ℕ) (x : MajorStep) : Type 0 where
  pub is : x ≡ stepped_at m d mag range word
  pub within : (continues m d ≡ true → Free m d) → x ≡ step_major m d mag range word
