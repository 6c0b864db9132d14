-- The open cells are copied to the finished ones just when an accumulation is reported as closed.
-- Assumes nothing.
use mathlib.Core.Path.{◌≡◌, refl}
use mathlib.Core.Bool.{Bool, true, false, cond}
use Prim.Native.Nat.{ℕ}
use Rattle.std.specs.Prelude.{Option, Some, None, is_some}
use Rattle.buffers.specs.declared.work.Work.{Work}
use Rattle.buffers.proofs.Closing.{Closes, closes, closes_none}
use Rattle.accumulation.specs.Accumulation.{is_open, reported, joins, extends, renews, passes, step_accumulation, clears_for, lays_for}
use Rattle.accumulation.specs.declared.Accumulation.{Accumulation}
use Rattle.accumulation.specs.declared.AccumulationReport.{AccumulationReport}
use Rattle.accumulation.specs.declared.AccumulationStep.{AccumulationStep}

-- copied when closed, and then cleared
abbrev pub FramesClose : Work → Option AccumulationReport → Type 0
FramesClose w r = Closes is_some None w r

pub frames_report : (a : Accumulation) (b c : Bool) → (is_open a ≡ true → b ≡ true)
    → FramesClose (record { copies = is_open a; clears = b; lays = c }) (reported a)
frames_report a b c h = closes is_some None refl b c (Some (record { first = a.first; held = a.held })) refl (is_open a) h

pub no_frames : (b c : Bool) → FramesClose (record { copies = false; clears = b; lays = c }) None
no_frames b c = closes_none is_some None refl b c

module _ (a : Accumulation) (science : Bool) (u d : ℕ) where
  abbrev step_by : Bool → Bool → AccumulationStep
  step_by s j = cond s (cond j (extends a u d) (renews a u d)) (passes a)

  pub step_closes : FramesClose (step_accumulation a science u d).work (step_accumulation a science u d).report
  unfolding step_accumulation
  step_closes = go science (joins a u d)
    where
      go : (s j : Bool) → FramesClose (step_by s j).work (step_by s j).report
      go true true = no_frames false true
      go true false = frames_report a true true (λ e. refl)
      go false j = no_frames false false

  -- what is done to the cells goes by the gap decision
  pub by_gap : ((step_accumulation a science u d).work.clears ≡ clears_for (step_accumulation a science u d).gap)
      × ((step_accumulation a science u d).work.lays ≡ lays_for (step_accumulation a science u d).gap)
  unfolding step_accumulation clears_for lays_for
  by_gap = go science (joins a u d)
    where
      go : (s j : Bool) → ((step_by s j).work.clears ≡ clears_for (step_by s j).gap) × ((step_by s j).work.lays ≡ lays_for (step_by s j).gap)
      go true true = (refl, refl)
      go true false = (refl, refl)
      go false j = (refl, refl)

  -- just a frame with science is laid
  pub lays_science : (step_accumulation a science u d).work.lays ≡ science
  unfolding step_accumulation
  lays_science = go science (joins a u d)
    where
      go : (s j : Bool) → (step_by s j).work.lays ≡ s
      go true true = refl
      go true false = refl
      go false j = refl
