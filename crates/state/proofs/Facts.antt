-- What a state that passes the list is known to be, and what a record at a later count finds in it.
-- Assumes nothing.
use mathlib.Core.Path.{◌≡◌}
use mathlib.Core.Bool.{true}
use Prim.Native.Nat.{ℕ, ◌<◌}
use Rattle.prelude.proofs.Conds.{two}
use Rattle.record.specs.Frame.{carries_mag, carries_science, first_burst}
use Rattle.record.specs.declared.Record.{Record}
use Rattle.clock.specs.Clock.{is_later, dated, clock_sound}
use Rattle.clock.proofs.Laws.{dated_above}
use Rattle.accumulation.specs.Soundness.{accumulation_sound}
use Rattle.accumulation.specs.Place as accumulation
use Rattle.accumulation.specs.declared.AccumulationStep.{AccumulationStep}
use Rattle.accumulation.proofs.Facts.{step_is}
use Rattle.major.specs.Soundness.{major_sound}
use Rattle.major.specs.Place as major
use Rattle.major.specs.declared.MajorStep.{MajorStep}
use Rattle.major.proofs.Facts.{is_free}
use Rattle.snapshot.specs.Soundness.{snapshot_sound}
use Rattle.snapshot.specs.Place as snapshot
use Rattle.snapshot.specs.declared.SnapshotStep.{SnapshotStep}
use Rattle.snapshot.proofs.Facts as snapshots
use Rattle.state.specs.Soundness.{sound}
use Rattle.state.specs.Deciding.{in_accumulation, in_major, in_snapshot}
use Rattle.state.specs.Inner.Accepting.{Ready}
use Rattle.state.specs.declared.State.{State}

-- the parts of the list, each by itself
pub record SoundParts (s : State) : Type 0 where
  pub clock : clock_sound s.clock ≡ true
  pub accumulation : accumulation_sound s.clock s.accumulation ≡ true
  pub major : major_sound s.clock s.major ≡ true
  pub snapshot : snapshot_sound s.clock s.snapshot ≡ true

pub facts : (s : State) → sound s ≡ true → SoundParts s
unfolding sound
facts s e =
    let p = two (clock_sound s.clock) _ e in
    let q = two (accumulation_sound s.clock s.accumulation) _ p.1 in
    let r = two (major_sound s.clock s.major) _ q.1 in
    record { clock = p.0; accumulation = q.0; major = r.0; snapshot = r.1 }

pub is_sound : (s : State) → SoundParts s → sound s ≡ true
unfolding sound
is_sound s f = cc

pub ready : (s : State) (f : Record) (d : ℕ) → sound s ≡ true → is_later s.clock f ≡ true → d ≡ dated s.clock f → f.frame_type < 64
    → Ready s f d
ready s f d e l q h = record { passes = e; above = λ a. rw q (dated_above s.clock f l a); kind = h }

-- a record that may be accepted is in place: what the parts answer is what the decision says
module _ (s : State) (f : Record) (d : ℕ) (r : Ready s f d) where
  pub accumulation_here : (x : AccumulationStep) → x ≡ accumulation.stepped_at s.accumulation (carries_science f.kind) f.frame_type d
      → x ≡ in_accumulation s f d
  accumulation_here x e = cc (step_is s.clock s.accumulation (facts s r.passes).accumulation d r.above _ _ r.kind)

  pub major_here : (k : ℕ) (x : MajorStep) → major.SteppedIs s.major d (carries_mag f.kind) k f.subcom x → x ≡ in_major s f d k
  major_here k x e = e.within (is_free s.clock s.major d (facts s r.passes).major r.above)

  pub snapshot_here : (x : SnapshotStep)
      → x ≡ snapshot.stepped_at s.clock s.snapshot d (first_burst f.kind f.frame_code) f.second_code → x ≡ in_snapshot s f d
  snapshot_here x e = cc (snapshots.step_is s.clock s.clock s.snapshot d _ _ (facts s r.passes).snapshot)
