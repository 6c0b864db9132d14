-- What the functions of this room answer where what they are handed is out of place: so they ask nothing of their caller. In every
-- state that passes the list, and for every later record, it is in place (`in_place_lem` in proofs/Facts.antt).
-- Assumes nothing.
use Rattle.std.specs.Prelude.{ℕ, ◌+◌, ◌^◌, Bool, cond, ◌&&◌, ◌||◌, eqb, ltb, None}
use Rattle.buffers.specs.Working.{no_work}
use Rattle.accumulation.specs.Accumulation.{step_accumulation}
use Rattle.accumulation.specs.declared.Accumulation.{Accumulation}
use Rattle.accumulation.specs.declared.AccumulationStep.{AccumulationStep}
use Rattle.accumulation.specs.declared.GapDecision.TheVariants.{Neither}

-- "frames held among 36", a type of six bits, and a count after the last frame and the other frames since
unfoldable pub in_place : Accumulation → ℕ → ℕ → Bool
in_place a u d = ltb u 64 && (ltb a.held (2 ^ 36) && (eqb a.held 0 || ltb (a.last_count + a.others) d))

-- nothing is done
abbrev pub leaves : Accumulation → AccumulationStep
leaves a = record { gap = Neither; next = a; report = None; work = no_work }

unfoldable pub stepped_at : Accumulation → Bool → ℕ → ℕ → AccumulationStep
stepped_at a science u d = cond (in_place a u d) (step_accumulation a science u d) (leaves a)
