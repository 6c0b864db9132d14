-- The seven lent buffers, and what is done to each (01, "Joining accumulations"; 02, request 2).
-- Assumes nothing.
use Rattle.std.specs.Prelude.{ℕ, ◌*◌, Bool, true, false, cond, ◌&&◌, List, eqb, ℤ, pos, length}
use Rattle.buffers.specs.Clearing.{cleared}
use Rattle.buffers.specs.Laying.{patch}
use Rattle.buffers.specs.declared.work.Work.{Work}
use Rattle.record.specs.Layout.{frame_code, mag_bytes, science_bytes}
use Rattle.record.specs.Parts.{burst_bytes}
use Rattle.mag.specs.Samples.{samples_size, samples}
use Rattle.bursts.specs.Bursts.{snapshot_size}
use Rattle.cells.specs.Laying.{cells_size, laid_frame}
use Rattle.major.specs.Major.{major_samples}
use Rattle.major.specs.declared.SlotWork.{SlotWork}
use Rattle.snapshot.specs.declared.PacketWork.{PacketWork}
use Rattle.state.specs.declared.closed.Works.{Works}

pub record Buffers : Type 0 where
  pub open_cells : List ℕ
  pub finished_cells : List ℕ
  pub open_samples : List ℤ
  pub finished_samples : List ℤ
  pub open_snapshot : List ℕ
  pub first_snapshot : List ℕ
  pub second_snapshot : List ℕ

abbrev pub buffers : List ℕ → List ℕ → List ℤ → List ℤ → List ℕ → List ℕ → List ℕ → Buffers
buffers oc fc os fs o f s = record {
  open_cells = oc;
  finished_cells = fc;
  open_samples = os;
  finished_samples = fs;
  open_snapshot = o;
  first_snapshot = f;
  second_snapshot = s;
}

-- "open and finished cells (2,997 bytes each), open and finished samples (864 signed 16-bit numbers each)"
abbrev pub four_sized : ℕ → ℕ → ℕ → ℕ → Bool
four_sized oc fc os fs = eqb oc cells_size && (eqb fc cells_size && (eqb os major_samples && eqb fs major_samples))

-- "one open and two finished buffers of 1,640 are lent"
abbrev pub three_sized : ℕ → ℕ → ℕ → Bool
three_sized o f s = eqb o snapshot_size && (eqb f snapshot_size && eqb s snapshot_size)

unfoldable pub sized_by : ℕ → ℕ → ℕ → ℕ → ℕ → ℕ → ℕ → Bool
sized_by oc fc os fs o f s = four_sized oc fc os fs && three_sized o f s

abbrev pub sized : Buffers → Bool
sized b =
    sized_by (length b.open_cells) (length b.finished_cells) (length b.open_samples) (length b.finished_samples)
    (length b.open_snapshot) (length b.first_snapshot) (length b.second_snapshot)

-- "Closing copies the open buffer to the finished buffer"
abbrev pub copied_by {ℓ} : {A : Type ℓ} → Bool → List A → List A → List A
copied_by copies from finished = cond copies from finished

-- "Opening sets the whole open cell buffer to 0"; closing "clears the open buffer to 0"
abbrev pub cleared_by {ℓ} : {A : Type ℓ} → Bool → A → List A → List A
cleared_by clears zero b = cond clears (cleared zero b) b

-- the packet's ER bytes and its bit pair, each in its own place
abbrev pub frame_laid_by : Bool → List ℕ → List ℕ → List ℕ
frame_laid_by lays packet c = cond lays (laid_frame (frame_code packet) (science_bytes packet) c) c

-- the packet's 54 samples, in their slot
abbrev pub slot_laid_by : Bool → List ℕ → ℕ → List ℤ → List ℤ
slot_laid_by lays packet slot s = cond lays (patch s (samples_size * slot) (samples (mag_bytes packet))) s

-- copied, cleared, laid into: in this order
abbrev pub cells_after : Work → List ℕ → List ℕ → List ℕ
cells_after w packet c = frame_laid_by w.lays packet (cleared_by w.clears 0 c)

abbrev pub samples_after : SlotWork → List ℕ → List ℤ → List ℤ
samples_after w packet s = slot_laid_by w.work.lays packet w.slot (cleared_by w.work.clears (pos 0) s)

-- a burst packet's 82 bytes, where its type has them
abbrev pub packet_laid_by : Bool → List ℕ → ℕ → List ℕ → List ℕ
packet_laid_by lays bytes at c = cond lays (patch c at bytes) c

abbrev pub packet_after : PacketWork → List ℕ → List ℕ → List ℕ
packet_after w bytes c = packet_laid_by w.work.lays bytes w.at (cleared_by w.work.clears 0 c)

-- the open snapshot's bytes after the first packet; the second finds them so
abbrev pub after_first : PacketWork → List ℕ → List ℕ → List ℕ
after_first one packet c = packet_after one (burst_bytes packet false) c

abbrev pub after_second : PacketWork → PacketWork → List ℕ → List ℕ → List ℕ
after_second one two packet c = packet_after two (burst_bytes packet true) (after_first one packet c)

-- "A frame can close two, ... so one open and two finished buffers ... are lent, filled in order": into the first goes what the first
-- packet closes, or, where that closes nothing, what the second does; into the second what the second closes after the first
abbrev pub first_after : PacketWork → PacketWork → List ℕ → List ℕ → List ℕ → List ℕ
first_after one two packet c f = cond one.work.copies c (copied_by two.work.copies (after_first one packet c) f)

abbrev pub second_after : PacketWork → PacketWork → List ℕ → List ℕ → List ℕ → List ℕ
second_after one two packet c s = copied_by (one.work.copies && two.work.copies) (after_first one packet c) s

-- the buffers after the work of a call, with the packet of its record
abbrev pub worked : Works → List ℕ → Buffers → Buffers
worked w packet b = record {
  open_cells = cells_after w.cells packet b.open_cells;
  finished_cells = copied_by w.cells.copies b.open_cells b.finished_cells;
  open_samples = samples_after w.samples packet b.open_samples;
  finished_samples = copied_by w.samples.work.copies b.open_samples b.finished_samples;
  open_snapshot = after_second w.one w.two packet b.open_snapshot;
  first_snapshot = first_after w.one w.two packet b.open_snapshot b.first_snapshot;
  second_snapshot = second_after w.one w.two packet b.open_snapshot b.second_snapshot;
}
