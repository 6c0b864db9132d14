-- Over a sent stream: what is kept is accepted, and the accumulations and the major frames handed out are those of the kept
-- records alone, each kind by itself.
-- Assumes nothing.
use mathlib.Core.Path.{◌≡◌, subst, subst⁻¹, ◌∙◌}
use mathlib.Core.Bool.{Bool, true, false, cond, ◌&&◌}
use mathlib.Core.List.{List, [], ◌∷◌}
use Prim.Native.Nat.{ℕ, ◌+◌, ◌*◌, ◌<◌}
use native.Mathlib.Omega.{arith}
use lib.IntN.{ℤ, pos}
use lib.ListN.{length}
use borrow.Author.Tests.{eq-eqb}
use Rattle.prelude.proofs.Built.{length_build}
use Rattle.buffers.specs.Laying.{patch}
use Rattle.buffers.specs.declared.work.Work.{Work}
use Rattle.buffers.proofs.Patches.{length_patch}
use Rattle.record.specs.Layout.{packet_bytes, frame_code, mag_bytes, science_bytes}
use Rattle.record.specs.Parts.{burst_bytes}
use Rattle.record.proofs.Types.{burst_short}
use Rattle.record.specs.Rules.{broken, refused_number}
use Rattle.record.specs.Contents.{record_of}
use Rattle.record.proofs.Opened as opened
use Rattle.mag.specs.Samples.{samples_size, samples}
use Rattle.bursts.specs.Bursts.{snapshot_size}
use Rattle.cells.specs.Laying.{cells_size, laid_frame}
use Rattle.cells.proofs.Laws.{length_frame}
use Rattle.clock.specs.Clock.{own_of, is_later, has_turn, dated, accepted}
use Rattle.clock.specs.declared.Clock.{Clock}
use Rattle.clock.proofs.Laws.{Follows, stands}
use Rattle.major.specs.Major.{major_samples}
use Rattle.major.specs.declared.SlotWork.{SlotWork}
use Rattle.state.specs.Soundness.{sound, fresh}
use Rattle.state.specs.Deciding.{state_holds, clock_holds, turn_holds, number_of, decided_of}
use Rattle.state.specs.Ending.{ended_of}
use Rattle.state.specs.Keeping.{Sound}
use Rattle.state.specs.declared.State.{State}
use Rattle.state.proofs.Decisions.{number_is}
use Rattle.state.proofs.Told.{accepted_clock, slot_small, one_fits, two_fits}
use Rattle.state.proofs.Keeping.{step_sound, fresh_sound}
use Rattle.reader.specs.Buffers.{Buffers, sized, copied_by, cleared_by, cells_after, samples_after, after_first}
use Rattle.reader.specs.Steps.{input}
use Rattle.reader.proofs.Lengths.{Sizes, sizes, is_sized, length_cleared, packet_length}
use Rattle.gathering.specs.Gathering.{gather}
use Rattle.stream.specs.Running.{Call, Trace, called, run, trace_of, accumulations, majors, snapshots}
use Rattle.stream.specs.Cutting.{at}
use Rattle.stream.specs.Bursts.{packets_of}
use Rattle.stream.specs.Sending.{sent_count, next_real, Fate, kept, removed, extra, Sends, fed, ExtraRefused, KeptAccepted, Kept, kept_of}
use Rattle.stream.proofs.Runs.{answered, finished}
use Rattle.stream.proofs.Calls.{accumulate, collect, cells_out, samples_out, refused_call, cells_call, samples_call}
use Rattle.stream.proofs.Snapping.{events_from, snap}
use Rattle.stream.proofs.SnapCalls.{snap_end, snaps_call}

-- the sizes stay
copied_size : {A : Type 0} (t : Bool) (c d : List A) (n : ℕ) → length c ≡ n → length d ≡ n → length (copied_by t c d) ≡ n
copied_size true c d n e f = e
copied_size false c d n e f = f

cells_size_lem : (w : Work) (p c : List ℕ) → length c ≡ cells_size → length (cells_after w p c) ≡ cells_size
cells_size_lem w p c e = go w.lays w.clears
  where
    go : (l t : Bool) → length (cond l (laid_frame (frame_code p) (science_bytes p) (cleared_by t 0 c)) (cleared_by t 0 c)) ≡ cells_size
    go true t = length_frame (frame_code p) (science_bytes p) _
    go false t = length_cleared t 0 c ∙ e

samples_size_lem : (w : SlotWork) (p : List ℕ) (s : List ℤ) → w.slot < 16 → length s ≡ major_samples → length (samples_after w p s) ≡ major_samples
samples_size_lem w p s h e = go w.work.lays w.work.clears
  where
    go : (l t : Bool)
        → length (cond l (patch (cleared_by t (pos 0) s) (samples_size * w.slot) (samples (mag_bytes p))) (cleared_by t (pos 0) s)) ≡ major_samples
    go true t =
        let n = length_cleared t (pos 0) s ∙ e in
        length_patch (cleared_by t (pos 0) s) (samples_size * w.slot) (samples (mag_bytes p))
        (rw length_build (omega arith)) ∙ n
    go false t = length_cleared t (pos 0) s ∙ e

pub call_sized : (s : State) (b : Buffers) (r : List ℕ) → Sizes b → Sizes (called s b r).left
unfolding called
call_sized s b r z =
    let i = input s b r in
    let w = (decided_of i).works in
    let p = packet_bytes r in
    let first = packet_length w.one (burst_bytes p false) b.open_snapshot (λ h. omega (arith, (one_fits i h).1, burst_short p false)) in
    let second = packet_length w.two (burst_bytes p true) (after_first w.one p b.open_snapshot)
    (λ h. omega (arith, (two_fits i h).1, burst_short p true, z.snapshot)) ∙ first in
    record {
      cells = cells_size_lem w.cells (packet_bytes r) b.open_cells z.cells;
      finished_cells_lem = copied_size w.cells.copies b.open_cells b.finished_cells cells_size z.cells z.finished_cells_lem;
      samples = samples_size_lem w.samples (packet_bytes r) b.open_samples (slot_small i) z.samples;
      finished_samples_lem =
          copied_size w.samples.work.copies b.open_samples b.finished_samples major_samples z.samples z.finished_samples_lem;
      snapshot = second ∙ z.snapshot;
      first_snapshot_lem =
          copied_size w.one.work.copies b.open_snapshot _ snapshot_size z.snapshot
          (copied_size w.two.work.copies (after_first w.one p b.open_snapshot) b.first_snapshot snapshot_size
          (first ∙ z.snapshot) z.first_snapshot_lem);
      second_snapshot_lem =
          copied_size (w.one.work.copies && w.two.work.copies) (after_first w.one p b.open_snapshot) b.second_snapshot snapshot_size
          (first ∙ z.snapshot) z.second_snapshot_lem;
    }

-- a reader that takes records
pub record Ready (s : State) (b : Buffers) : Type 0 where
  pub sound : Sound s
  pub sized : Sizes b

pub start : (b : Buffers) → sized b ≡ true → Ready fresh b
start b z = record { sound = fresh_sound; sized = sizes b z }

-- each of the records can follow the clock that the one before it left
unfoldable pub Follow : Clock → List Kept → Type 0
Follow c [] = Unit {0}
Follow c (x ∷ ks) = Follows c (at x) × Follow (accepted (at x)) ks

-- the record of full count c stands there
pub record Stood (s : State) (c : ℕ) (r : List ℕ) : Type 0 where
  pub later : is_later s.clock (record_of r) ≡ true
  pub turn : has_turn s.clock (record_of r) ≡ true
  pub count : dated s.clock (record_of r) ≡ c

pub stands_at : (s : State) (c : ℕ) → Follows s.clock c → (r : List ℕ) → sent_count r ≡ own_of c → Stood s c r
unfolding sent_count
stands_at s c h r e = let t = stands s.clock c h (record_of r) e in record { later = t.0; turn = t.1; count = t.2 }

module _ (s : State) (b : Buffers) (c : ℕ) (r : List ℕ) (h : Ready s b) (t : Stood s c r) where
  -- a record that stands at count c and passes rules 2 to 11 is accepted
  pub accepts : broken r ≡ 0 → number_of (input s b r) ≡ 0
  unfolding state_holds clock_holds turn_holds
  accepts e = number_is (input s b r) ∙ rw (is_sized b h.sized, h.sound.passes, eq-eqb, t.later, t.turn)

  -- once it is accepted the clock has its count
  pub clock_after : number_of (input s b r) ≡ 0 → (called s b r).result.state.clock ≡ accepted c
  unfolding called
  clock_after n = accepted_clock (input s b r) n ∙ rw t.count

-- whatever it is handed, it takes records then
pub moves : (s : State) (b : Buffers) (r : List ℕ) → Ready s b → Ready (called s b r).result.state (called s b r).left
unfolding called
moves s b r h = record { sound = step_sound (input s b r) h.sound; sized = call_sized s b r h.sized }

-- what becomes of fates of which the records ks are kept
pub record Parts (ks : List Kept) (xs : List Fate) (s : State) (b : Buffers) : Type 0 where
  pub accepted : KeptAccepted xs (run s b (fed xs))
  pub cells : accumulations (run s b (fed xs)) ≡ accumulate s.accumulation b.open_cells ks
  pub samples : majors (run s b (fed xs)) ≡ collect s.major b.open_samples ks
  pub bytes : (n : ℕ) → snapshots (run s b (fed xs)) ≡ snap s.clock.last s.snapshot b.open_snapshot (events_from n ks)

is_accepted : (s : State) (b : Buffers) (r : List ℕ) → number_of (input s b r) ≡ 0 → refused_number (called s b r).result.answer ≡ 0
unfolding called
is_accepted s b r e = answered (input s b r) ∙ e

-- the calls behind a call, for these records
abbrev behind : Call → List (List ℕ) → Trace
behind y rs = run y.result.state y.left rs

-- nothing more is fed: finish
pub ends : (s : State) (b : Buffers) → Ready s b → Parts [] [] s b
unfolding trace_of fed KeptAccepted accumulations majors snapshots gather events_from ended_of
ends s b h =
    let t : (sized b && sound s) ≡ true = rw (is_sized b h.sized) h.sound.passes in
    record {
      accepted = finished s (sized b) ∙ rw t;
      cells = rw t (cells_out s.accumulation b.open_cells b.finished_cells);
      samples = rw t (samples_out s.major b.open_samples b.finished_samples);
      bytes = λ n. rw t (snap_end s.snapshot b.open_snapshot b.first_snapshot);
    }

-- one more that was sent and not fed, and one more that was fed and is refused
module _ (ks : List Kept) (xs : List Fate) (s : State) (b : Buffers) where
  pub lost_one : (r : List ℕ) → Parts ks xs s b → Parts ks (removed r ∷ xs) s b
  unfolding fed KeptAccepted
  lost_one r v = record { accepted = v.accepted; cells = v.cells; samples = v.samples; bytes = v.bytes }

  pub extra_one : (x : List ℕ) → ExtraRefused (extra x ∷ xs) (run s b (fed (extra x ∷ xs)))
      → (ExtraRefused xs (run s b (fed xs)) → Parts ks xs s b) → Parts ks (extra x ∷ xs) s b
  unfolding trace_of fed ExtraRefused KeptAccepted accumulations majors snapshots
  extra_one x q v =
      let e = refused_call s b x q.0 in
      let p = v (rw e at q.1) in
      record {
        accepted = rw e p.accepted;
        cells = rw e p.cells;
        samples = rw e p.samples;
        bytes = λ n. rw e (p.bytes n);
      }

pub parts : (xs : List Fate) (k l c : ℕ) (s : State) (b : Buffers) → Ready s b → Sends c k xs → Follow s.clock (kept_of c k l xs)
    → ExtraRefused xs (run s b (fed xs)) → Parts (kept_of c k l xs) xs s b
unfolding trace_of fed kept_of Sends Follow ExtraRefused KeptAccepted
parts [] k l c s b h w f q = ends s b h
parts (removed r ∷ xs) k l c s b h w f q =
    lost_one (kept_of (c + 1) (next_real k r) (l + 1) xs) xs s b r (parts xs (next_real k r) (l + 1) (c + 1) s b h w.1 f q)
parts (extra x ∷ xs) k l c s b h w f q = extra_one (kept_of c k l xs) xs s b x q (parts xs k l c s b h w f)
parts (kept r ∷ xs) k l c s b h w f q =
    let p = w.0 in
    let x : Kept = record { bytes = r; count = c; serial = k; lost = l } in
    let d = stands_at s c f.0 r p.counted in
    let n = accepts s b c r h d p.passes in
    let ks = kept_of (c + 1) (next_real k r) l xs in
    let clock = clock_after s b c r h d n in
    let g = subst⁻¹ (λ (y : Clock). Follow y ks) clock f.1 in
    let v = parts xs (next_real k r) l (c + 1) (called s b r).result.state (called s b r).left (moves s b r h) w.1 g q in
    let t = behind (called s b r) (fed xs) in
    record {
      accepted = (is_accepted s b r n, v.accepted);
      cells = cells_call s b x n d.count t ks h.sized.cells v.cells;
      samples = samples_call s b x n d.count t ks h.sized.samples v.samples;
      bytes = λ m.
          let y = called s b r in
          let es = events_from (m + length (packets_of m x)) ks in
          snaps_call s b x n d.count m t ks h.sized.snapshot (opened.sized r p.passes)
          (subst (λ (z : Clock). snapshots t ≡ snap z.last y.result.state.snapshot y.left.open_snapshot es) clock
          (v.bytes (m + length (packets_of m x))));
    }
