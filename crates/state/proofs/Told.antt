-- What the number of a decision says of it.
-- Assumes nothing.
use mathlib.Core.Path.{◌≡◌, refl, sym, ap, ◌∙◌}
use mathlib.Core.Bool.{Bool, true, false, not, cond, true≢false}
use mathlib.Core.List.{List}
use Prim.Native.Nat.{ℕ, ◌+◌, ◌<◌, ◌≤◌}
use native.Mathlib.Omega.{arith}
use lib.Dec.{eqb}
use lib.ListN.{length}
use borrow.Author.Tests.{eq-eqb, eqb-true, eqb-false}
use Rattle.record.specs.Layout.{size, packet_bytes}
use Rattle.record.specs.Frame.{carries_mag, carries_science, carries_burst, carries_two}
use Rattle.record.specs.Rules.{broken}
use Rattle.record.specs.Contents.{record_of}
use Rattle.record.proofs.Opened as opened
use Rattle.record.proofs.Types as types
use Rattle.prelude.proofs.Conds.{cases, two}
use Rattle.clock.specs.Clock.{accepted}
use Rattle.accumulation.proofs.Closing as accumulation
use Rattle.major.specs.Major.{slot_of, continues}
use Rattle.major.proofs.Closing as major
use Rattle.bursts.specs.Bursts.{burst_size, snapshot_size}
use Rattle.snapshot.specs.Snapshot.{is_part, step_snapshot}
use Rattle.snapshot.proofs.Closing as snapshot
use Rattle.state.specs.Soundness.{sound}
use Rattle.state.specs.Deciding.{Input, fields_of, count_at, state_holds, clock_holds, turn_holds, number_of, refusal, acceptance, decided_of}
use Rattle.state.specs.declared.deciding.Decided.{Decided}
use Rattle.state.proofs.Decisions.{number_is, accepted_is, refused_is}

-- a record that no rule refuses passes each
pub record Passed (i : Input) : Type 0 where
  pub sized : i.sized ≡ true
  pub sound : sound i.state ≡ true
  pub record_passes : broken i.bytes ≡ 0
  pub later : clock_holds i ≡ true
  pub turn : turn_holds i ≡ true

-- a test that gives a number above 0 was passed
past : (t : Bool) (n x : ℕ) → (n ≡ 0 → ⊥) → cond t x n ≡ 0 → (t ≡ true) × (x ≡ 0)
past true n x h e = (refl, e)
past false n x h e = absurd (h e)

nought : (n x : ℕ) → cond (eqb n 0) x n ≡ 0 → (n ≡ 0) × (x ≡ 0)
nought n x e =
    cases (eqb n 0)
    (λ t. (eqb-true n 0 t, (rw t at e)))
    (λ t. absurd (true≢false (sym (eq-eqb n 0 (rw t at e)) ∙ t)))

pub all_pass : (i : Input) → number_of i ≡ 0 → Passed i
unfolding state_holds
all_pass i e =
    let a = past (state_holds i) 1 _ (λ z. omega arith) (sym (number_is i) ∙ e) in
    let b = nought (broken i.bytes) _ a.1 in
    let c = past (clock_holds i) 12 _ (λ z. omega arith) b.1 in
    let d = past (turn_holds i) 14 0 (λ z. omega arith) c.1 in
    let s = two i.sized (sound i.state) a.0 in
    record { sized = s.0; sound = s.1; record_passes = b.0; later = c.0; turn = d.0 }

pub passed_size : (i : Input) → Passed i → length i.bytes ≡ size
passed_size i p = opened.sized i.bytes p.record_passes

-- work is done for an accepted record only
pub at_work : (i : Input) (f : Decided → Bool) → f (refusal i.state (number_of i)) ≡ false → f (decided_of i) ≡ true → number_of i ≡ 0
at_work i f r e =
    cases (eqb (number_of i) 0)
    (λ t. eqb-true (number_of i) 0 t)
    (λ t. absurd (true≢false (sym e ∙ ap f (refused_is i (eqb-false (number_of i) 0 t)) ∙ r)))

-- the clock after it
pub accepted_clock : (i : Input) → number_of i ≡ 0 → (decided_of i).stepped.state.clock ≡ accepted (count_at i)
unfolding acceptance
accepted_clock i e = rw (accepted_is i e)

-- the type of a frame with science is below 36
pub science_type : (r : List ℕ) → carries_science (record_of r).kind ≡ true → (record_of r).frame_type < 36
unfolding record_of
science_type r e = types.real_type (packet_bytes r) (sym (types.science_real _) ∙ e)

-- 0 is no packet's type byte
part_burst : (t : Bool) (code : ℕ) → is_part (cond t code 0) ≡ true → t ≡ true
unfolding is_part
part_burst true code e = refl
part_burst false code e = cc

module _ (i : Input) where
  -- each part lays just what carries it, the samples in the record's slot, cleared by the first of a major frame
  pub samples_mag : number_of i ≡ 0 → (decided_of i).works.samples.work.lays ≡ carries_mag (fields_of i).kind
  unfolding acceptance
  samples_mag e = rw (accepted_is i e, major.lays_mag _ _ _ _ _)

  pub samples_slot : number_of i ≡ 0 → (decided_of i).works.samples.slot ≡ slot_of (count_at i)
  unfolding acceptance
  samples_slot e = rw (accepted_is i e, major.own_slot _ _ _ _ _)

  pub samples_first : number_of i ≡ 0 → (decided_of i).works.samples.work.clears ≡ not (continues i.state.major (count_at i))
  unfolding acceptance
  samples_first e = rw (accepted_is i e, major.first_clears _ _ _ _ _)

  pub cells_science : number_of i ≡ 0 → (decided_of i).works.cells.lays ≡ carries_science (fields_of i).kind
  unfolding acceptance
  cells_science e = rw (accepted_is i e, accumulation.lays_science _ _ _ _)

  -- the slot is one of 16, whatever is decided
  pub slot_small : (decided_of i).works.samples.slot < 16
  slot_small =
      cases (eqb (number_of i) 0)
      (λ t. omega (arith, samples_slot (eqb-true (number_of i) 0 t)))
      (λ t. omega (arith, ap (λ (x : Decided). x.works.samples.slot) (refused_is i (eqb-false (number_of i) 0 t))))

  -- a burst packet is laid only of a frame that has it, and where it has room
  pub one_fits : (decided_of i).works.one.work.lays ≡ true
      → (carries_burst (fields_of i).kind ≡ true) × ((decided_of i).works.one.at + burst_size ≤ snapshot_size)
  unfolding acceptance step_snapshot
  one_fits h =
      let n = at_work i (λ x. x.works.one.work.lays) refl h in
      let q = accepted_is i n in
      let k = sym (ap (λ (x : Decided). x.works.one.work.lays) q) ∙ h in (
        part_burst (carries_burst (fields_of i).kind) _ (sym (snapshot.lays_part _ _ _) ∙ k),
        omega (arith, ap (λ (x : Decided). x.works.one.at) q, snapshot.lays_room _ _ _ k),
      )

  pub two_fits : (decided_of i).works.two.work.lays ≡ true
      → (carries_two (fields_of i).kind ≡ true) × ((decided_of i).works.two.at + burst_size ≤ snapshot_size)
  unfolding acceptance step_snapshot record_of
  two_fits h =
      let n = at_work i (λ x. x.works.two.work.lays) refl h in
      let q = accepted_is i n in
      let k = sym (ap (λ (x : Decided). x.works.two.work.lays) q) ∙ h in (
        part_burst (carries_two (fields_of i).kind) _ (sym (snapshot.lays_part _ _ _) ∙ k),
        omega (arith, ap (λ (x : Decided). x.works.two.at) q, snapshot.lays_room _ _ _ k),
      )
