-- What the promises of step and finish say, in the words of the demands and of 01.
-- Assumes nothing.
use mathlib.Core.Path.{◌≡◌, refl, sym, ap, ◌∙◌}
use mathlib.Core.Bool.{Bool, true, false, not, cond, ◌&&◌, ◌||◌, true≢false, and-false, or-false}
use mathlib.Core.List.{List, []}
use Prim.Native.Nat.{ℕ, ◌<◌}
use native.Mathlib.Omega.{arith}
use lib.IntN.{pos}
use Rattle.std.specs.Prelude.{Option, Some, None, is_some, Ok}
use Rattle.prelude.proofs.Conds.{cases}
use Rattle.prelude.specs.Rules.{FirstBroken}
use Rattle.buffers.specs.Clearing.{cleared}
use Rattle.record.specs.Layout.{packet_bytes}
use Rattle.record.specs.Frame.{carries_mag}
use Rattle.record.specs.Rules.{refused_number}
use Rattle.accumulation.specs.Accumulation.{clears_for, lays_for}
use Rattle.major.specs.Major.{slot_of, continues}
use Rattle.state.specs.Closed.{nothing_closed}
use Rattle.state.specs.Soundness.{sound}
use Rattle.state.specs.Deciding.{Input, fields_of, count_at, reader_rules, number_of, decided_of}
use Rattle.state.specs.Ending.{unended, ended_of}
use Rattle.state.specs.Keeping.{Sound}
use Rattle.state.specs.declared.State.{State}
use Rattle.state.specs.declared.closed.Closed.{Closed}
use Rattle.state.specs.declared.deciding.Decided.{Decided}
use Rattle.state.specs.declared.deciding.Stepped.{Stepped}
use Rattle.state.specs.declared.deciding.Taken.{Taken}
use Rattle.state.specs.declared.ending.Ended.{Ended}
use Rattle.state.specs.declared.ending.Finished.{Finished}
use Rattle.state.proofs.Decisions.{exactly, refused_is}
use Rattle.state.proofs.Told.{samples_mag, samples_slot, samples_first}
use Rattle.state.proofs.Closing.{step_closes, end_closes, end_clears, cells_by_gap}
use Rattle.state.proofs.Keeping.{step_sound, end_sound}
use Rattle.reader.specs.Buffers.{Buffers, sized, copied_by, cleared_by, frame_laid_by, slot_laid_by, after_first, worked}
use Rattle.reader.specs.Steps.{input, StepIs, FinishIs}

-- no report is none
none_is : {A : Type 0} (o : Option A) → is_some o ≡ false → o ≡ None
none_is None e = refl
none_is (Some r) e = absurd (true≢false e)

-- into the first finished snapshot goes what one of the two packets closes
first_by : (a t : Bool) (c d f : List ℕ) → cond a c (copied_by t d f) ≡ cond (a || t) (cond a c d) f
first_by true t c d f = refl
first_by false t c d f = refl

module _ (s : State) (b b' : Buffers) where
  -- "A refusal carries its number and changes neither the state nor any lent buffer": and nothing is reported
  pub record Untouched (state : State) (closed : Closed) : Type 0 where
    pub state_kept : state ≡ s
    pub buffers_kept : b' ≡ b
    pub nothing : closed ≡ nothing_closed

  module _ (r : List ℕ) (x : Stepped) (is : StepIs s b r x b') where
    abbrev i : Input
    i = input s b r

    closed_is : x.closed ≡ (decided_of i).stepped.closed
    closed_is = cc

    pub refusal_untouched : 0 < refused_number x.answer → Untouched x.state x.closed
    refusal_untouched h =
        let q = refused_is i (λ z. omega arith) in
        record {
          state_kept = ap (λ y. y.state) is.result ∙ ap (λ (y : Decided). y.stepped.state) q;
          buffers_kept = is.left ∙ ap (λ (y : Decided). worked y.works (packet_bytes r) b) q;
          nothing = closed_is ∙ ap (λ (y : Decided). y.stepped.closed) q;
        }

    -- "refused exactly when a listed rule fails": with n exactly when rule n fails and those before it in the list hold
    pub refused_exactly : FirstBroken reader_rules i (refused_number x.answer)
    refused_exactly = rw is.number (exactly i)

    -- "A finished buffer changes only when something closes into it": and then it becomes what the open one was
    cells_copied : (decided_of i).works.cells.copies ≡ is_some x.closed.accumulation
    cells_copied = (step_closes i).cells.copied ∙ sym (rw closed_is)

    samples_copied : (decided_of i).works.samples.work.copies ≡ is_some x.closed.major
    samples_copied = (step_closes i).samples.copied ∙ sym (rw closed_is)

    pub finished_cells_lem : b'.finished_cells ≡ cond (is_some x.closed.accumulation) b.open_cells b.finished_cells
    finished_cells_lem = ap (λ y. y.finished_cells) is.left ∙ rw cells_copied

    pub finished_samples_lem : b'.finished_samples ≡ cond (is_some x.closed.major) b.open_samples b.finished_samples
    finished_samples_lem = ap (λ y. y.finished_samples) is.left ∙ rw samples_copied

    -- the snapshots: what closes first goes into the first finished one, and what closes after it into the second
    pub finished_first : b'.first_snapshot
        ≡ cond (is_some x.closed.first_snapshot)
        (cond (decided_of i).works.one.work.copies b.open_snapshot (after_first (decided_of i).works.one (packet_bytes r) b.open_snapshot))
        b.first_snapshot
    finished_first =
        let w = (decided_of i).works in
        let o = b.open_snapshot in
        let d = after_first w.one (packet_bytes r) o in
        ap (λ y. y.first_snapshot) is.left
        ∙ first_by w.one.work.copies w.two.work.copies o d b.first_snapshot
        ∙ ap (λ t. cond t (cond w.one.work.copies o d) b.first_snapshot)
        (sym (ap (λ y. is_some y.first_snapshot) closed_is ∙ (step_closes i).snapshots.first_closed))

    pub finished_second : b'.second_snapshot
        ≡ cond (is_some x.closed.second_snapshot) (after_first (decided_of i).works.one (packet_bytes r) b.open_snapshot) b.second_snapshot
    finished_second =
        ap (λ y. y.second_snapshot) is.left
        ∙ rw (sym (step_closes i).snapshots.second_closed, sym (ap (λ y. is_some y.second_snapshot) closed_is))

    -- what didn't close isn't reported
    pub first_nothing : is_some x.closed.first_snapshot ≡ false → x.closed.first_snapshot ≡ None
    first_nothing e = none_is x.closed.first_snapshot e

    pub second_nothing : is_some x.closed.second_snapshot ≡ false → x.closed.second_snapshot ≡ None
    second_nothing e = none_is x.closed.second_snapshot e

    pub major_nothing : is_some x.closed.major ≡ false → x.closed.major ≡ None
    major_nothing e = none_is x.closed.major e

    pub accumulation_nothing : is_some x.closed.accumulation ≡ false → x.closed.accumulation ≡ None
    accumulation_nothing e = none_is x.closed.accumulation e

    -- the open cells of an accepted record, by its gap decision: set to 0 by one that opens, and its frame laid in; laid in by
    -- one that joins; as found after one without science
    pub accepted_cells : (t : Taken) → x.answer ≡ Ok t
        → b'.open_cells ≡ frame_laid_by (lays_for t.gap) (packet_bytes r) (cleared_by (clears_for t.gap) 0 b.open_cells)
    accepted_cells t e =
        let k = cells_by_gap i t (sym (rw is.result) ∙ e) in
        ap (λ y. y.open_cells) is.left ∙ rw (k.0, k.1)

    -- the open samples: set to 0 by the first slot of a major frame, and the 54 of a record with MAG laid into its slot
    pub accepted_samples : number_of i ≡ 0
        → b'.open_samples
        ≡ slot_laid_by (carries_mag (fields_of i).kind) (packet_bytes r) (slot_of (count_at i))
        (cleared_by (not (continues s.major (count_at i))) (pos 0) b.open_samples)
    accepted_samples e = ap (λ y. y.open_samples) is.left ∙ rw (samples_mag, samples_slot i e, samples_first i e)

    -- the state list is kept
    pub step_keeps : Sound s → Sound x.state
    step_keeps h = rw is.result (step_sound i h)

  module _ (x : Finished) (is : FinishIs s b x b') where
    ended_is : x.closed ≡ (ended_of s (sized b)).finished.closed
    ended_is = cc

    cells_end : (ended_of s (sized b)).works.cells.copies ≡ is_some x.closed.accumulation
    cells_end = (end_closes s (sized b)).cells.copied ∙ sym (rw ended_is)

    samples_end : (ended_of s (sized b)).works.samples.work.copies ≡ is_some x.closed.major
    samples_end = (end_closes s (sized b)).samples.copied ∙ sym (rw ended_is)

    pub finish_cells : b'.finished_cells ≡ cond (is_some x.closed.accumulation) b.open_cells b.finished_cells
    finish_cells = ap (λ y. y.finished_cells) is.left ∙ rw cells_end

    pub finish_samples : b'.finished_samples ≡ cond (is_some x.closed.major) b.open_samples b.finished_samples
    finish_samples = ap (λ y. y.finished_samples) is.left ∙ rw samples_end

    -- the snapshot into the first, and the second as found
    one_end : (ended_of s (sized b)).works.one.work.copies ≡ is_some x.closed.first_snapshot
    one_end =
        let e = ap (λ y. y.work.copies) (end_clears s (sized b)).two_none in
        sym (or-false _)
        ∙ ap (λ t. (ended_of s (sized b)).works.one.work.copies || t) (sym e)
        ∙ sym (end_closes s (sized b)).snapshots.first_closed
        ∙ sym (ap (λ y. is_some y.first_snapshot) ended_is)

    pub finish_first : b'.first_snapshot ≡ cond (is_some x.closed.first_snapshot) b.open_snapshot b.first_snapshot
    finish_first = ap (λ y. y.first_snapshot) is.left ∙ rw ((end_clears s (sized b)).two_none, one_end)

    pub finish_second : b'.second_snapshot ≡ b.second_snapshot
    finish_second =
        let copies = (ended_of s (sized b)).works.one.work.copies in
        ap (λ y. y.second_snapshot) is.left ∙ rw ((end_clears s (sized b)).two_none, and-false copies)

    -- the open buffers are set to 0 where they closed
    pub finish_open_snapshot : b'.open_snapshot ≡ cond (is_some x.closed.first_snapshot) (cleared 0 b.open_snapshot) b.open_snapshot
    finish_open_snapshot =
        let e = end_clears s (sized b) in
        ap (λ y. y.open_snapshot) is.left ∙ rw (e.two_none, e.one_laid, e.one_cleared, one_end)

    pub finish_open_cells : b'.open_cells ≡ cond (is_some x.closed.accumulation) (cleared 0 b.open_cells) b.open_cells
    finish_open_cells =
        let e = end_clears s (sized b) in
        ap (λ y. y.open_cells) is.left ∙ rw (e.cells_laid, e.cells_cleared, cells_end)

    pub finish_open_samples : b'.open_samples ≡ cond (is_some x.closed.major) (cleared (pos 0) b.open_samples) b.open_samples
    finish_open_samples =
        let e = end_clears s (sized b) in
        ap (λ y. y.open_samples) is.left ∙ rw (e.samples_laid, e.samples_cleared, samples_end)

    -- what didn't close isn't reported
    pub finish_major_nothing : is_some x.closed.major ≡ false → x.closed.major ≡ None
    finish_major_nothing e = none_is x.closed.major e

    pub finish_accumulation_nothing : is_some x.closed.accumulation ≡ false → x.closed.accumulation ≡ None
    finish_accumulation_nothing e = none_is x.closed.accumulation e

    pub finish_keeps : Sound s → Sound x.state
    finish_keeps h = rw is.result (end_sound s (sized b) h)

    -- a refused finish changes nothing
    pub finish_untouched : 0 < refused_number x.ending → Untouched x.state x.closed
    unfolding ended_of
    finish_untouched h =
        cases (sized b && sound s)
        (λ t. let n : refused_number x.ending ≡ 0 = is.number ∙ rw t in absurd (omega arith))
        (λ t.
        let q : ended_of s (sized b) ≡ unended s = rw t in
        record {
          state_kept = ap (λ y. y.state) is.result ∙ ap (λ y. y.finished.state) q;
          buffers_kept = is.left ∙ ap (λ (y : Ended). worked y.works [] b) q;
          nothing = ended_is ∙ ap (λ (y : Ended). y.finished.closed) q;
        })
