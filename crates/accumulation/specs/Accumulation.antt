-- The open accumulation (01, "Joining accumulations"). Counts are full ones: "Turn x 2^24 + count takes the count's place in g, major
-- numbers, the listing and the state list" (02, request 1).
-- Assumes nothing.
use Rattle.std.specs.Prelude.{ℕ, ◌+◌, ◌-◌, ◌^◌, Bool, true, false, cond, not, ◌&&◌, eqb, ltb, leb, Option, Some, None}
use Rattle.prelude.specs.Marks.{marked}
use Rattle.buffers.specs.Working.{no_work}
use Rattle.accumulation.specs.declared.Accumulation.{Accumulation}
use Rattle.accumulation.specs.declared.AccumulationReport.{AccumulationReport}
use Rattle.accumulation.specs.declared.AccumulationStep.{AccumulationStep}
use Rattle.accumulation.specs.declared.GapDecision.{GapDecision}
use Rattle.accumulation.specs.declared.GapDecision.TheVariants.{Opens, Joins, Neither}

-- "An open accumulation holds at least one frame"
abbrev pub is_open : Accumulation → Bool
is_open a = not (eqb a.held 0)

-- "With no accumulation open, its numbers are 0"
abbrev pub no_accumulation : Accumulation
no_accumulation = record { first = 0; held = 0; last_type = 0; last_count = 0; others = 0 }

-- "Let g be the counts strictly between c and d that were not accepted: d - c - 1 less the accepted "other" frames between." Once
-- rules 1 and 12 hold no difference is cut off at 0 (`is_after` in proofs/Facts.antt)
abbrev pub gap : Accumulation → ℕ → ℕ
gap a d = d - a.last_count - 1 - a.others

-- the fewest and the most of them between frames of types t and u of one accumulation: "u - t - 1 <= g <= 34 + (u - t)"
abbrev pub fewest : ℕ → ℕ → ℕ
fewest t u = u - t - 1

abbrev pub most : ℕ → ℕ → ℕ
most t u = 34 + (u - t)

-- "It joins exactly when u > t and u - t - 1 <= g <= 34 + (u - t)." "With none open, u opens one."
unfoldable pub joins : Accumulation → ℕ → ℕ → Bool
joins a u d =
    is_open a
    && (ltb a.last_type u && (leb (fewest a.last_type u) (gap a d) && leb (gap a d) (most a.last_type u)))

abbrev pub joined : Accumulation → ℕ → ℕ → Accumulation
joined a u d = record { first = a.first; held = marked a.held u; last_type = u; last_count = d; others = 0 }

abbrev pub started : ℕ → ℕ → Accumulation
started u d = record { first = d; held = 2 ^ u; last_type = u; last_count = d; others = 0 }

-- ""Other" frames are counted only while an accumulation is open, from its last real-time frame."
abbrev pub passed : Accumulation → Accumulation
passed a = record {
  first = a.first;
  held = a.held;
  last_type = a.last_type;
  last_count = a.last_count;
  others = cond (is_open a) (a.others + 1) a.others;
}

-- "Closing ... reports number (for an accumulation, the count of its first frame) and which frames it holds"; nothing is reported of
-- what doesn't close
abbrev pub reported : Accumulation → Option AccumulationReport
reported a = cond (is_open a) (Some (record { first = a.first; held = a.held })) None

-- an other frame leaves the cells alone
abbrev pub passes : Accumulation → AccumulationStep
passes a = record { gap = Neither; next = passed a; report = None; work = no_work }

abbrev pub extends : Accumulation → ℕ → ℕ → AccumulationStep
extends a u d = record { gap = Joins; next = joined a u d; report = None; work = record { copies = false; clears = false; lays = true } }

-- "Otherwise the open accumulation closes and a new one opens with u." "Opening sets the whole open cell buffer to 0 before the
-- frame is laid in"
abbrev pub renews : Accumulation → ℕ → ℕ → AccumulationStep
renews a u d = record { gap = Opens; next = started u d; report = reported a; work = record { copies = is_open a; clears = true; lays = true } }

-- a frame at count d, with science of type u or without
unfoldable pub step_accumulation : Accumulation → Bool → ℕ → ℕ → AccumulationStep
step_accumulation a science u d = cond science (cond (joins a u d) (extends a u d) (renews a u d)) (passes a)

-- what a gap decision means for the open cells: they are set to 0 by a frame that opens, and one that opens or joins is laid in
unfoldable pub clears_for : GapDecision → Bool
clears_for Opens = true
clears_for Joins = false
clears_for Neither = false

unfoldable pub lays_for : GapDecision → Bool
lays_for Opens = true
lays_for Joins = true
lays_for Neither = false
