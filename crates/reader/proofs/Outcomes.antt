-- What the code of step and finish comes to is what their definitions say.
-- Assumes nothing.
use mathlib.Core.Path.{◌≡◌, refl, sym, ap, subst, subst⁻¹, ◌∙◌}
use mathlib.Core.Bool.{Bool, true, false, ◌&&◌, true≢false}
use mathlib.Core.List.{List, []}
use Prim.Native.Nat.{ℕ, ◌+◌, ◌-◌, ◌<◌, ◌≤◌}
use native.Mathlib.Omega.{arith}
use lib.Dec.{eqb}
use lib.IntN.{ℤ, pos}
use lib.ListN.{length, take, drop, length-take, length-drop}
use lib.Seq.{take_all}
use borrow.Author.Tests.{eqb-true, eqb-false}
use Rattle.prelude.proofs.Conds.{cases, two}
use Rattle.record.specs.Layout.{size, packet_size, packet_bytes, frame_code, type_in}
use Rattle.record.specs.Frame.{carries_burst, carries_two, kind_of}
use Rattle.record.specs.Parts.{PacketAtIs, has_burst}
use Rattle.record.specs.Contents.{record_of}
use Rattle.carriage.specs.Carriage.{types}
use Rattle.bursts.specs.Bursts.{burst_size, snapshot_size}
use Rattle.snapshot.specs.declared.PacketWork.{PacketWork}
use Rattle.state.specs.Soundness.{sound}
use Rattle.state.specs.Deciding.{Input, fields_of, number_of, refusal, decided_of, DecidedIs}
use Rattle.state.specs.Ending.{unended, ended_of, end_number, EndedIs}
use Rattle.state.specs.declared.State.{State}
use Rattle.state.specs.declared.closed.Works.{Works}
use Rattle.state.specs.declared.deciding.Decided.{Decided}
use Rattle.state.specs.declared.deciding.Stepped.{Stepped}
use Rattle.state.specs.declared.ending.Ended.{Ended}
use Rattle.state.proofs.Decisions.{refused_is}
use Rattle.state.proofs.Told.{all_pass, passed_size, at_work, science_type, cells_science, slot_small, one_fits, two_fits}
use Rattle.state.proofs.Closing.{Ends, end_clears}
use Rattle.reader.specs.Buffers.{Buffers, buffers, sized, worked}
use Rattle.reader.specs.Steps.{input, StepIs, FinishIs}
use Rattle.reader.specs.Inner.Asked.{Alike, ClosedBy, CellsReady, SamplesReady, CellsWorked, SamplesWorked}
use Rattle.reader.specs.Inner.Asked.{BurstReady, SnapshotReady, SnapshotWorked, AllReady}
use Rattle.reader.proofs.Lengths.{Sizes, sizes}

-- all buffers, once the work is done on each pair and on the snapshot's three
pub all_worked : (w : Works) (p : List ℕ) (b : Buffers) (oc fc : List ℕ) (os fs : List ℤ) (o f s : List ℕ)
    → SamplesWorked w.samples p b.open_samples b.finished_samples os fs
    → CellsWorked w.cells p b.open_cells b.finished_cells oc fc
    → SnapshotWorked w.one w.two p b.open_snapshot b.first_snapshot b.second_snapshot o f s
    → buffers oc fc os fs o f s ≡ worked w p b
all_worked w p b oc fc os fs o f s x y z = rw (x.opened, x.finished, y.opened, y.finished, z.opened, z.first, z.second)

and_false : (t : Bool) → (t && false) ≡ false
and_false false = refl
and_false true = refl

-- a record lent on as the whole of itself
pub of_whole : (s : State) (b : Buffers) (r : List ℕ) {x : Stepped} {b' : Buffers} → StepIs s b (take (length r - 0) (drop 0 r)) x b' → StepIs s b r x b'
of_whole s b r {x} {b'} h = rw (take_all (length r - 0) r (omega arith)) at h

frame_type_lem : (r : List ℕ) → (record_of r).frame_type < 36 → type_in (frame_code (packet_bytes r)) < types
unfolding record_of
frame_type_lem r h = h

module _ (s : State) (b : Buffers) where
  module _ (r : List ℕ) (t : Bool) (et : t ≡ sized b) (x : Decided) (is : DecidedIs s t r x) where
    abbrev i : Input
    i = input s b r

    decided : x ≡ decided_of i
    decided = cc

    -- work is done on an accepted record, and then all is of its size
    accepted_so : (f : Decided → Bool) → f (refusal s (number_of i)) ≡ false → f x ≡ true → number_of i ≡ 0
    accepted_so f e h = at_work i f e (sym (ap f decided) ∙ h)

    sizes_so : number_of i ≡ 0 → Sizes b
    sizes_so e = sizes b (all_pass i e).sized

    module _ (p : List ℕ) (from at : ℕ × ℕ) (part : PacketAtIs r from p at) where
      packet_so : length r ≡ size → p ≡ packet_bytes r
      packet_so h = cc

      packet_size_lem : number_of i ≡ 0 → length p ≡ packet_size
      packet_size_lem e =
          let h = passed_size i (all_pass i e) in
          ap length (packet_so h) ∙ simp (length-take, length-drop) (omega arith)

      samples_ready : SamplesReady x.works.samples p b.open_samples b.finished_samples
      samples_ready = record {
        alike = λ h. let z = sizes_so (accepted_so (λ d. d.works.samples.work.copies) refl h) in omega arith;
        fits = λ h.
            let n = accepted_so (λ d. d.works.samples.work.lays) refl h in
            record {
              packet_size_lem = packet_size_lem n;
              among = subst (λ (d : Decided). d.works.samples.slot < 16) (sym decided) (slot_small i);
              samples_size_lem = (sizes_so n).samples;
            };
      }

      cells_ready : CellsReady x.works.cells p b.open_cells b.finished_cells
      cells_ready = record {
        alike = λ h. let z = sizes_so (accepted_so (λ d. d.works.cells.copies) refl h) in omega arith;
        fits = λ h.
            let n = accepted_so (λ d. d.works.cells.lays) refl h in
            let k = sym (cells_science i n) ∙ sym (ap (λ (d : Decided). d.works.cells.lays) decided) ∙ h in
            let e = packet_so (passed_size i (all_pass i n)) in
            record {
              packet_size_lem = packet_size_lem n;
              typed = rw e (frame_type_lem r (science_type r k));
              cells_size_lem = (sizes_so n).cells;
            };
      }

      -- a burst packet is laid only where the packet has it, and there is room
      burst_ready : (f : Works → PacketWork) (second : Bool) (has : Bool)
          → ((f (decided_of i).works).work.lays ≡ true → (has ≡ true) × ((f (decided_of i).works).at + burst_size ≤ snapshot_size))
          → (has ≡ true → has_burst (kind_of (packet_bytes r)) second ≡ true) → (f x.works).work.lays ≡ true
          → (f (refusal s (number_of i)).works).work.lays ≡ false → BurstReady (f x.works).at second p b.open_snapshot
      burst_ready f second has fits so h none =
          let n = accepted_so (λ d. (f d.works).work.lays) none h in
          let k = fits (sym (ap (λ (d : Decided). (f d.works).work.lays) decided) ∙ h) in
          let e = packet_so (passed_size i (all_pass i n)) in
          record {
            has = rw e (so k.0);
            room = omega (arith, ap (λ (d : Decided). (f d.works).at) decided, (sizes_so n).snapshot);
          }

      snapshot_ready : SnapshotReady x.works.one x.works.two p b.open_snapshot b.first_snapshot b.second_snapshot
      unfolding record_of
      snapshot_ready =
          let fits : x.works.two.work.lays ≡ true → BurstReady x.works.two.at true p b.open_snapshot =
          λ h. burst_ready (λ (w : Works). w.two) true (carries_two (fields_of i).kind) (two_fits i) (λ e. e) h refl in
          record {
            first = record {
              alike = λ h. let z = sizes_so (accepted_so (λ (d : Decided). d.works.one.work.copies) refl h) in omega arith;
              fits = λ h. burst_ready (λ (w : Works). w.one) false (carries_burst (fields_of i).kind) (one_fits i) (λ e. e) h refl;
            };
            second = record {
              alike = λ h. let z = sizes_so (accepted_so (λ (d : Decided). d.works.two.work.copies) refl h) in omega arith;
              fits = fits;
            };
            again = record {
              alike = λ h. let z = sizes_so (accepted_so (λ (d : Decided). d.works.two.work.copies) refl h) in omega (arith, z);
              fits = fits;
            };
          }

      pub step_ready : AllReady x.works p b
      step_ready = record { samples = samples_ready; cells = cells_ready; snapshot = snapshot_ready }

      -- where nothing is laid the packet makes no difference
      other_packet : worked (decided_of i).works p b ≡ worked (decided_of i).works (packet_bytes r) b
      other_packet =
          cases (eqb (number_of i) 0)
          (λ z.
          let h = passed_size i (all_pass i (eqb-true (number_of i) 0 z)) in
          rw (packet_so h))
          (λ z. rw (refused_is i (eqb-false (number_of i) 0 z)))

      pub step_is : (b' : Buffers) → b' ≡ worked x.works p b → StepIs s b r x.stepped b'
      step_is b' e = record {
        result = ap (λ y. y.stepped) decided;
        number = is.number ∙ ap (λ z. number_of (record { state = s; sized = z; bytes = r })) et;
        left = e ∙ ap (λ y. worked y.works p b) decided ∙ other_packet;
      }

  module _ (t : Bool) (et : t ≡ sized b) (x : Ended) (is : EndedIs s t x) where
    ended_so : x ≡ ended_of s (sized b)
    ended_so = cc

    -- something is copied only where all is of its size
    sized_so : (f : Ended → Bool) → f (unended s) ≡ false → f x ≡ true
        → Sizes b
    unfolding ended_of
    sized_so f e h =
        cases (sized b && sound s)
        (λ z. sizes b (two (sized b) (sound s) z).0)
        (λ z. absurd (true≢false (sym (rw z at (sym (ap f ended_so) ∙ h)) ∙ e)))

    -- what closes, copies into a buffer of its own size
    pub samples_end : Alike x.works.samples.work b.open_samples b.finished_samples
    samples_end h = let z = sized_so (λ y. y.works.samples.work.copies) refl h in omega arith

    pub cells_end : Alike x.works.cells b.open_cells b.finished_cells
    cells_end h = let z = sized_so (λ y. y.works.cells.copies) refl h in omega arith

    pub snapshot_end : Alike x.works.one.work b.open_snapshot b.first_snapshot
    snapshot_end h = let z = sized_so (λ y. y.works.one.work.copies) refl h in omega arith

    -- nothing is laid, and there is no second packet
    pub all_closed : (oc fc : List ℕ) (os fs : List ℤ) (o f : List ℕ)
        → ClosedBy x.works.samples.work (pos 0) b.open_samples b.finished_samples os fs
        → ClosedBy x.works.cells 0 b.open_cells b.finished_cells oc fc
        → ClosedBy x.works.one.work 0 b.open_snapshot b.first_snapshot o f
        → buffers oc fc os fs o f b.second_snapshot ≡ worked x.works [] b
    all_closed oc fc os fs o f p q k =
        let w = subst⁻¹ (λ y. Ends y.works) ended_so (end_clears s (sized b)) in
        rw (
          p.opened,
          p.finished,
          q.opened,
          q.finished,
          k.opened,
          k.finished,
          w.samples_laid,
          w.cells_laid,
          w.one_laid,
          w.two_none,
          and_false x.works.one.work.copies,
        )

    pub finish_is : (b' : Buffers) → b' ≡ worked x.works [] b → FinishIs s b x.finished b'
    finish_is b' e = record {
      result = rw ended_so;
      number = is.number ∙ ap (end_number s) et;
      left = e ∙ ap (λ y. worked y.works [] b) ended_so;
    }
