-- Demand 3.
-- Assumes nothing.
use mathlib.Core.Path.{ap, subst, subst⁻¹, ◌∙◌}
use mathlib.Core.List.{List}
use Prim.Native.Nat.{ℕ, ◌*◌}
use lib.ListN.{length}
use Rattle.prelude.specs.Every.{Every}
use Rattle.mag.specs.Samples.{samples_size}
use Rattle.bursts.specs.Bursts.{burst_size}
use Rattle.carriage.specs.Carriage.{science_size}
use Rattle.state.specs.Soundness.{fresh}
use Rattle.state.proofs.Keeping.{fresh_sound}
use Rattle.reader.specs.Buffers.{Buffers}
use Rattle.gathering.specs.Lists.{Pairwise, flat}
use Rattle.gathering.proofs.Grouping.{each_out}
use Rattle.gathering.proofs.Members.{in_every}
use Rattle.stream.specs.Running.{Trace, run, Allowed}
use Rattle.stream.specs.Sending.{Fate, fed, Stream, Kept, magged, unspoiled}
use Rattle.stream.specs.Cutting.{Joined, Parted, Beside, Behind}
use Rattle.stream.specs.Filling.{Filled, MajorFilled}
use Rattle.stream.specs.Bursts.{Packet, Together, Apart}
use Rattle.stream.specs.Snapshots.{SnapshotFilled}
use Rattle.stream.specs.Demand.{Demand3}
use Rattle.stream.proofs.Runs.{only_run, run_sound}
use Rattle.stream.proofs.Parts.{start}
use Rattle.stream.proofs.Leading.{led, follows, left_parts}
use Rattle.stream.proofs.Chains.{all_typed, rising_counts, Typed}
use Rattle.stream.proofs.Rounds.{out_of, rounds}
use Rattle.stream.proofs.Cells.{filled}
use Rattle.stream.proofs.Frames.{major_of, frames}
use Rattle.stream.proofs.Slots.{major_filled}
use Rattle.stream.proofs.Sums.{cells_total, samples_total, slots_total, snaps_total}
use Rattle.stream.proofs.Snaps.{snap_of, snapped}
use Rattle.stream.proofs.Packets.{Part, all_parts, snapshot_filled}

module _ (xs : List Fate) (b : Buffers) (c k : ℕ) where
  ran : Stream c k xs b (run fresh b (fed xs)) → Demand3 c k xs (run fresh b (fed xs))
  ran w =
      let ks = unspoiled c k xs in
      let p = left_parts xs c k b (start b w.right) w.sent (follows xs c k w.sent w.near w.within) w.refused in
      let l = led xs c k w.sent in
      let r = rounds ks b.open_cells l.count l.serial 0 l.chained in
      let m = frames ks b.open_samples l.count (rising_counts ks l.count l.serial 0 l.chained) in
      let typed = all_typed ks l.count l.serial 0 l.chained in
      let all_filled = each_out Joined Parted out_of Typed Filled filled r.groups r.cut (subst⁻¹ (Every Typed) r.whole typed) in
      let any = in_every (λ x. Unit {0}) (flat m.groups) (λ f i. tt) in
      let majors-filled = each_out Beside Behind major_of (λ x. Unit {0}) MajorFilled (λ x xs u l. major_filled x xs l) m.groups m.cut any in
      let q = snapped ks l.count l.serial l.chained 0 b.open_snapshot in
      let pieces = all_parts ks l.count l.serial 0 l.chained in
      let snaps-filled = each_out (Together ks) (Apart ks) snap_of Part SnapshotFilled (snapshot_filled ks) q.groups q.cut
      (subst⁻¹ (Every Part) q.whole pieces) in
      let snaps-out = subst⁻¹ (Pairwise SnapshotFilled q.groups) (p.bytes 0 ∙ q.is) snaps-filled in
      let parts_out = subst⁻¹ (Pairwise Filled r.groups) (p.cells ∙ r.is) all_filled in
      let major_out_lem = subst⁻¹ (Pairwise MajorFilled m.groups) (p.samples ∙ m.is) majors-filled in
      record {
        accepted = p.accepted;
        parts = r.groups;
        parts_whole = r.whole;
        parts_cut = r.cut;
        parts_out = parts_out;
        major_parts = m.groups;
        major_whole = m.whole;
        major_cut = m.cut;
        major_out_lem = major_out_lem;
        cells_sum = cells_total r.groups _ parts_out ∙ ap (λ (g : List Kept). science_size * length g) r.whole;
        samples_sum = samples_total m.groups _ major_out_lem ∙ ap (λ (g : List Kept). samples_size * length (magged g)) m.whole;
        slots_sum = slots_total m.groups _ major_out_lem ∙ ap length m.whole;
        snapshot_parts = q.groups;
        snapshot_whole = q.whole;
        snapshot_cut = q.cut;
        snapshot_out_lem = snaps-out;
        snaps_sum = snaps_total q.groups _ snaps-out ∙ ap (λ (g : List Packet). burst_size * length g) q.whole;
        states_sound = run_sound (fed xs) fresh b fresh_sound;
      }

  pub demand_3 : (t : Trace) → Stream c k xs b t → Allowed fresh b (fed xs) t → Demand3 c k xs t
  demand_3 t w a = let e = only_run (fed xs) fresh b t a in subst⁻¹ (Demand3 c k xs) e (ran (subst (Stream c k xs b) e w))
