-- What stands in what is handed out (demand 3).
-- Assumes nothing.
use Rattle.std.specs.Prelude.{◌≡◌, true, false, List, [], ◌∷◌, ℕ, ◌+◌, ◌*◌, ◌^◌, ◌<◌, pos, length, get_or}
use Rattle.std.specs.Int.Count.{ones}
use Rattle.prelude.specs.Every.{Every}
use Rattle.prelude.specs.Marks.{bit_set}
use Rattle.record.specs.Layout.{packet_bytes, frame_code, mag_bytes, science_bytes}
use Rattle.record.specs.Contents.{record_of}
use Rattle.mag.specs.Samples.{samples_size, range, sample}
use Rattle.carriage.specs.Carriage.{types, science_size, place}
use Rattle.cells.specs.Laying.{cells_size, top_pair, pair_at}
use Rattle.major.specs.Major.{slots, major_samples, slot_of}
use Rattle.major.specs.Shape.{Shaped}
use Rattle.stream.specs.Running.{ClosedAccumulation, ClosedMajor}
use Rattle.stream.specs.Sending.{Kept, has_mag, magged}
use Rattle.stream.specs.Cutting.{at, type_of, major}

-- the packet of a kept record
abbrev pub packet : Kept → List ℕ
packet f = packet_bytes f.bytes

-- "each of its 83 science bytes in exactly one cell, its own", and its bit pair in its place: byte k of type u stands in the cell
-- place u k, no two bytes of any types in one cell, and no cell left out (`place_once` and `once` in carriage/EachCell)
pub record Stands (f : Kept) (a : ClosedAccumulation) : Type 0 where
  pub held : bit_set a.report.held (type_of f) ≡ true
  pub science : (k : ℕ) → k < science_size → get_or a.cells (place (type_of f) k) 0 ≡ get_or (science_bytes (packet f)) k 0
  pub pair : pair_at a.cells (type_of f) ≡ top_pair (frame_code (packet f))

-- a type that isn't there: no mark, and its cells and its pair are 0
pub record Missing (u : ℕ) (a : ClosedAccumulation) : Type 0 where
  pub unheld : bit_set a.report.held u ≡ false
  pub science : (k : ℕ) → k < science_size → get_or a.cells (place u k) 0 ≡ 0
  pub pair : pair_at a.cells u ≡ 0

abbrev pub first_count : List Kept → ℕ
first_count [] = 0
first_count (f ∷ fs) = at f

-- the accumulation that holds just these records
pub record Filled (g : List Kept) (a : ClosedAccumulation) : Type 0 where
  pub first : a.report.first ≡ first_count g
  pub frames : ones a.report.held ≡ length g
  pub among : a.report.held < 2 ^ types
  pub size : length a.cells ≡ cells_size
  pub own : Every (λ f. Stands f a) g
  pub others : (u : ℕ) → u < types → Every (λ f. type_of f ≡ u → ⊥) g → Missing u a

abbrev pub slot : Kept → ℕ
slot f = slot_of (at f)

-- the mark, the range and the 54 samples of a record with MAG
pub record Sampled (f : Kept) (m : ClosedMajor) : Type 0 where
  pub marked : bit_set m.frame.mag_slots (slot f) ≡ true
  pub ranged : get_or m.frame.ranges (slot f) 0 ≡ range (mag_bytes (packet f))
  pub samples : (k : ℕ) → k < samples_size → get_or m.samples (samples_size * slot f + k) (pos 0) ≡ sample (mag_bytes (packet f)) k

-- a record in its slot: its subcom word, and its MAG where it carries it
pub record Slotted (f : Kept) (m : ClosedMajor) : Type 0 where
  pub number : m.frame.number ≡ major f
  pub held : bit_set m.frame.slots (slot f) ≡ true
  pub word : get_or m.frame.words (slot f) 0 ≡ (record_of f.bytes).subcom
  pub mag : has_mag f ≡ true → Sampled f m

-- a slot that isn't there
pub record NoSlot (i : ℕ) (m : ClosedMajor) : Type 0 where
  pub unheld : bit_set m.frame.slots i ≡ false
  pub word : get_or m.frame.words i 0 ≡ 0

-- a slot without MAG
pub record NoMag (i : ℕ) (m : ClosedMajor) : Type 0 where
  pub unmarked : bit_set m.frame.mag_slots i ≡ false
  pub ranged : get_or m.frame.ranges i 0 ≡ 0
  pub samples : (k : ℕ) → k < samples_size → get_or m.samples (samples_size * i + k) (pos 0) ≡ pos 0

-- the major frame that holds just these records
pub record MajorFilled (g : List Kept) (m : ClosedMajor) : Type 0 where
  pub held : ones m.frame.slots ≡ length g
  pub mags : ones m.frame.mag_slots ≡ length (magged g)
  pub shaped : Shaped m.frame
  pub size : length m.samples ≡ major_samples
  pub own : Every (λ f. Slotted f m) g
  pub no_slot : (i : ℕ) → i < slots → Every (λ f. slot f ≡ i → ⊥) g → NoSlot i m
  pub no_mag : (i : ℕ) → i < slots → Every (λ f. slot f ≡ i → ⊥) (magged g) → NoMag i m
