-- The open samples are copied to the finished ones just when a major frame is reported as closed.
-- Assumes nothing.
use mathlib.Core.Path.{◌≡◌, refl}
use mathlib.Core.Bool.{Bool, true, false, not, cond}
use Prim.Native.Nat.{ℕ}
use Rattle.std.specs.Prelude.{Option, Some, None, is_some}
use Rattle.buffers.specs.declared.work.Work.{Work}
use Rattle.buffers.proofs.Closing.{Closes, closes, closes_none}
use Rattle.major.specs.Major.{slot_of, major_open, major_reported, continues, stays, major_renews, step_major}
use Rattle.major.specs.declared.Major.{Major}
use Rattle.major.specs.declared.MajorStep.{MajorStep}

-- copied when closed, and then cleared
abbrev pub MajorCloses : Work → Option Major → Type 0
MajorCloses w r = Closes is_some None w r

pub major_report : (m : Major) (b c : Bool) → (major_open m ≡ true → b ≡ true)
    → MajorCloses (record { copies = major_open m; clears = b; lays = c }) (major_reported m)
major_report m b c h = closes is_some None refl b c (Some m) refl (major_open m) h

pub no_major_lem : (b c : Bool) → MajorCloses (record { copies = false; clears = b; lays = c }) None
no_major_lem b c = closes_none is_some None refl b c

module _ (m : Major) (d : ℕ) (mag : Bool) (k w : ℕ) where
  abbrev step_by : Bool → MajorStep
  step_by t = cond t (stays m d mag k w) (major_renews m d mag k w)

  pub step_closes : MajorCloses (step_major m d mag k w).work.work (step_major m d mag k w).report
  unfolding step_major
  step_closes = go (continues m d)
    where
      go : (t : Bool) → MajorCloses (step_by t).work.work (step_by t).report
      go true = no_major_lem false mag
      go false = major_report m true mag (λ e. refl)

  -- just a record with MAG is laid, in its slot; the first slot of a major frame clears
  pub lays_mag : (step_major m d mag k w).work.work.lays ≡ mag
  unfolding step_major
  lays_mag = go (continues m d)
    where
      go : (t : Bool) → (step_by t).work.work.lays ≡ mag
      go true = refl
      go false = refl

  pub own_slot : (step_major m d mag k w).work.slot ≡ slot_of d
  unfolding step_major
  own_slot = go (continues m d)
    where
      go : (t : Bool) → (step_by t).work.slot ≡ slot_of d
      go true = refl
      go false = refl

  pub first_clears : (step_major m d mag k w).work.work.clears ≡ not (continues m d)
  unfolding step_major
  first_clears = go (continues m d)
    where
      go : (t : Bool) → (step_by t).work.work.clears ≡ not t
      go true = refl
      go false = refl
