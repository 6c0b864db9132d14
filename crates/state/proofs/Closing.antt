-- An open buffer is copied to the finished one just when something is reported as closed; what isn't closed isn't reported.
-- Assumes nothing.
use mathlib.Core.Path.{◌≡◌, sym, ap, ◌∙◌}
use native.Mathlib.Omega.{arith}
use mathlib.Core.Bool.{Bool, true, false, cond, ◌&&◌}
use Prim.Native.Nat.{ℕ}
use lib.Dec.{eqb}
use borrow.Author.Tests.{eqb-true, eqb-false}
use borrow.Author.Rules.{rules}
use Rattle.std.specs.Prelude.{Result, Ok, Err}
use Rattle.prelude.proofs.Conds.{cases, two}
use Rattle.record.specs.declared.refusal.Refusal.{Refusal}
use Rattle.accumulation.specs.Accumulation.{is_open, clears_for, lays_for}
use Rattle.accumulation.specs.declared.GapDecision.{GapDecision}
use Rattle.accumulation.specs.declared.GapDecision.TheVariants.{Neither}
use Rattle.accumulation.proofs.Closing as accumulation
use Rattle.accumulation.proofs.Closing.{FramesClose, frames_report, by_gap}
use Rattle.major.specs.Major.{major_open}
use Rattle.major.proofs.Closing as major
use Rattle.major.proofs.Closing.{MajorCloses, major_report}
use Rattle.buffers.specs.Working.{no_work}
use Rattle.snapshot.specs.Snapshot.{packet_work}
use Rattle.snapshot.proofs.Closing as snapshot
use Rattle.snapshot.proofs.Closing.{SnapshotsClose}
use Rattle.state.specs.Closed.{nothing_closed, no_works}
use Rattle.state.specs.Soundness.{sound}
use Rattle.state.specs.Deciding.{Input, number_of, acceptance, decided_of}
use Rattle.state.specs.Keeping.{Sound}
use Rattle.state.specs.Ending.{ending, unended, ended_of}
use Rattle.state.specs.declared.State.{State}
use Rattle.state.specs.declared.closed.Closed.{Closed}
use Rattle.state.specs.declared.closed.Works.{Works}
use Rattle.state.specs.declared.deciding.Decided.{Decided}
use Rattle.state.specs.declared.deciding.Taken.{Taken}
use Rattle.state.proofs.Keeping.{ended_sound}
use Rattle.state.proofs.Decisions.{accepted_is, refused_is}

pub record Closes (w : Works) (x : Closed) : Type 0 where
  pub samples : MajorCloses w.samples.work x.major
  pub cells : FramesClose w.cells x.accumulation
  pub snapshots : SnapshotsClose w.one w.two x.first_snapshot x.second_snapshot

nothing : Closes no_works nothing_closed
nothing = search rules

abbrev DecidedCloses : Decided → Type 0
DecidedCloses x = Closes x.works x.stepped.closed

pub step_closes : (i : Input) → DecidedCloses (decided_of i)
unfolding acceptance
step_closes i =
    cases (eqb (number_of i) 0)
    (λ t.
    rw (accepted_is i (eqb-true (number_of i) 0 t))
    (record { samples = major.step_closes _ _ _ _ _; cells = accumulation.step_closes _ _ _ _; snapshots = snapshot.step_closes _ _ _ _ _ }))
    (λ t. rw (refused_is i (eqb-false (number_of i) 0 t)) nothing)

pub end_closes : (s : State) (sized : Bool) → Closes (ended_of s sized).works (ended_of s sized).finished.closed
unfolding ended_of
end_closes s sized = go (sized && sound s)
  where
    go : (t : Bool) → Closes (cond t (ending s) (unended s)).works (cond t (ending s) (unended s)).finished.closed
    go true = record {
      samples = major_report s.major (major_open s.major) false (λ e. e);
      cells = frames_report s.accumulation (is_open s.accumulation) false (λ e. e);
      snapshots = snapshot.end_closes s.snapshot;
    }
    go false = nothing

-- finish clears what it copies, and lays nothing
pub record Ends (w : Works) : Type 0 where
  pub samples_cleared : w.samples.work.clears ≡ w.samples.work.copies
  pub samples_laid : w.samples.work.lays ≡ false
  pub cells_cleared : w.cells.clears ≡ w.cells.copies
  pub cells_laid : w.cells.lays ≡ false
  pub slot : w.samples.slot ≡ 0
  pub one_cleared : w.one.work.clears ≡ w.one.work.copies
  pub one_laid : w.one.work.lays ≡ false
  pub two_none : w.two ≡ packet_work no_work 0

pub end_clears : (s : State) (sized : Bool) → Ends (ended_of s sized).works
unfolding ended_of
end_clears s sized = go (sized && sound s)
  where
    go : (t : Bool) → Ends (cond t (ending s) (unended s)).works
    go true = search rules
    go false = search rules

-- once finished nothing is open: a second finish is done too, changes nothing and closes nothing
pub second_end : (s : State) (sized : Bool) → Sound s → (sized && sound s) ≡ true
    → ended_of (ended_of s sized).finished.state sized
    ≡ record { finished = record { ending = Ok tt; state = (ended_of s sized).finished.state; closed = nothing_closed }; works = no_works }
unfolding ended_of
second_end s sized h e =
    let k : (sized && sound (ending s).finished.state) ≡ true = rw (two sized (sound s) e).0 (ended_sound s h).passes in
    rw (e, k)

abbrev taken_gap : Result Taken Refusal → GapDecision
taken_gap (Err n) = Neither
taken_gap (Ok t) = t.gap

-- what is done to the cells goes by the gap decision
pub cells_by_gap : (i : Input) (t : Taken) → (decided_of i).stepped.answer ≡ Ok t
    → ((decided_of i).works.cells.clears ≡ clears_for t.gap) × ((decided_of i).works.cells.lays ≡ lays_for t.gap)
unfolding acceptance
cells_by_gap i t e =
    cases (eqb (number_of i) 0)
    (λ b.
    let q = accepted_is i (eqb-true (number_of i) 0 b) in
    let g = sym (ap taken_gap e) in
    let h = g ∙ ap (λ (x : Decided). taken_gap x.stepped.answer) q in
    let k = by_gap i.state.accumulation _ _ _ in
    (ap (λ (x : Decided). x.works.cells.clears) q ∙ k.0 ∙ ap clears_for (sym h), ap (λ (x : Decided). x.works.cells.lays) q ∙ k.1 ∙ ap lays_for (sym h)))
    (λ b.
    let r = refused_is i (eqb-false (number_of i) 0 b) in
    let q = sym e ∙ ap (λ (x : Decided). x.stepped.answer) r in
    let z : ◌≡◌ {A = ℕ} 0 1 = cc in
    absurd (omega arith))
