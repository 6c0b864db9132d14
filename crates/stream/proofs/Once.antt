-- Demand 3, cell by cell.
-- Assumes nothing.
use mathlib.Core.Path.{subst⁻¹, ap, ◌∙◌}
use mathlib.Core.List.{List}
use mathlib.Core.Logic.{◌⊎◌}
use Prim.Native.Nat.{ℕ, ◌≤◌, ◌*◌}
use lib.ListN.{length}
use Rattle.carriage.specs.Carriage.{science_size}
use Rattle.state.specs.Soundness.{fresh}
use Rattle.reader.specs.Buffers.{Buffers}
use Rattle.gathering.specs.Lists.{Some}
use Rattle.gathering.proofs.Those.{rising_those}
use Rattle.gathering.proofs.Owning.{all_tied}
use Rattle.stream.specs.Running.{Trace, Allowed, accumulations, majors, snapshots}
use Rattle.stream.specs.Sending.{Fate, fed, Stream, is_real, reals, unspoiled, Kept}
use Rattle.stream.specs.Cutting.{at, Joined, Parted, tears}
use Rattle.stream.specs.Filling.{Filled}
use Rattle.stream.specs.Bursts.{snap_packets}
use Rattle.stream.specs.Once.{OnceEach, Own}
use Rattle.stream.proofs.Sums.{filled_total}
use Rattle.stream.proofs.Filled.{filled_held}
use Rattle.stream.proofs.Lost.{real_lost}
use Rattle.stream.proofs.Chains.{rising_counts, rising_serials, all_typed}
use Rattle.stream.proofs.Leading.{led}
use Rattle.stream.proofs.Demand.{demand_3}
use Rattle.stream.proofs.OwnCells.{cells_owned, torn_where}
use Rattle.stream.proofs.OwnSlots.{slots_owned}
use Rattle.stream.proofs.Packets.{all_parts}
use Rattle.stream.proofs.OwnPackets.{stood, together_where, snapshots_unmixed, bytes_held}

pub once_each : (xs : List Fate) (b : Buffers) (c k : ℕ) (t : Trace) → Stream c k xs b t → Allowed fresh b (fed xs) t → OnceEach c k xs t
once_each xs b c k t w a =
    let d = demand_3 xs b c k t w a in
    let ks = unspoiled c k xs in
    let rs = reals ks in
    let l = led xs c k w.sent in
    let n = l.count in
    let m = l.serial in
    let counts = rising_counts ks n m 0 l.chained in
    let real-counts = rising_those is_real at ks n counts in
    let serials = rising_serials ks n m 0 l.chained in
    let known = all_typed ks n m 0 l.chained in
    let parts = all_tied Joined Parted Filled d.parts (accumulations t) d.parts_cut d.parts_out in
    let cells = cells_owned rs n m real-counts serials known d.parts (accumulations t) d.parts_whole parts in
    let slots = slots_owned ks n counts d.major_parts (majors t) d.major_whole d.major_out_lem in
    let pieces = all_parts ks n m 0 l.chained in
    let snaps = stood ks d.snapshot_parts (snapshots t) d.snapshot_whole d.snapshot_out_lem d.snapshot_cut pieces in
    let bytes = snapshots_unmixed ks d.snapshot_parts (snapshots t) d.snapshot_whole d.snapshot_out_lem d.snapshot_cut pieces in
    record {
      one = cells.one;
      there = cells.there;
      unmixed = cells.each;
      filled =
          filled_held rs (accumulations t) cells.each
          ∙ filled_total d.parts (accumulations t) d.parts_out
          ∙ ap (λ (g : List Kept). science_size * length g) d.parts_whole;
      torn = λ p f q r.
          subst⁻¹ (λ (g : ℕ). Some (λ a. Own rs p a × Own rs f a) (accumulations t) ⊎ (tears ≤ g)) (real_lost ks n m 0 l.chained p f q)
          (torn_where rs n m real-counts serials known d.parts (accumulations t) d.parts_whole parts d.parts_cut p f q r);
      one_major = slots.one;
      there_major = slots.there;
      unmixed_major = slots.each;
      one_snapshot = λ i f a. (snaps i f a).0;
      there_snapshot = λ i f a. (snaps i f a).1;
      unmixed_snapshot = bytes;
      joined_where = together_where ks d.snapshot_parts (snapshots t) d.snapshot_whole d.snapshot_out_lem d.snapshot_cut pieces;
      snapshot_filled = bytes_held (snap_packets ks) (snapshots t) d.snapshot_parts 0 0 d.snapshot_out_lem bytes ∙ d.snaps_sum;
    }
