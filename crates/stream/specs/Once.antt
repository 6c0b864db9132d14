-- Demand 3, cell by cell: each kept record has exactly one major frame of its own, each real-time one exactly one accumulation, each
-- packet of types 36 to 55 exactly one snapshot, and stands there in its own place; what is handed out comes from such, an accumulation
-- from those of one round, and is 0 elsewhere.
-- Assumes nothing.
use Rattle.std.specs.Prelude.{◌≡◌, Bool, true, false, cond, ◌&&◌, ◌||◌, List, [], ◌∷◌, ◌⊎◌, ◌↔◌, ℕ, suc, ◌*◌, ◌<◌, ◌≤◌, eqb, length, get_or}
use Rattle.prelude.specs.Every.{Every}
use Rattle.prelude.specs.Marks.{bit_set}
use Rattle.record.specs.Layout.{frame_code, science_bytes}
use Rattle.bursts.specs.Bursts.{burst_size}
use Rattle.carriage.specs.Carriage.{types, science_size, cells, carrier, byte_of}
use Rattle.cells.specs.Laying.{top_pair, pair_at}
use Rattle.cells.specs.Raw.{holds_cell}
use Rattle.major.specs.Major.{slots}
use Rattle.gathering.specs.Lists.{Some, ExactlyOne, Neighbours, sum, total}
use Rattle.gathering.specs.Places.{At}
use Rattle.stream.specs.Running.{Trace, ClosedAccumulation, ClosedMajor, accumulations, majors}
use Rattle.stream.specs.Sending.{Fate, Kept, magged, unspoiled, real_unspoiled}
use Rattle.stream.specs.Cutting.{at, type_of, round, unaccepted, tears, major}
use Rattle.stream.specs.Filling.{packet, Stands, slot, Sampled, Slotted, NoSlot, NoMag}
use Rattle.stream.specs.Bursts.{Packet, snap_packets, Together}
use Rattle.stream.specs.Snapshots.{PacketStands, placed_snapshots, HasPacket, HasNext, UnmixedSnapshot, bytes_filled}

-- the accumulation is of round n: its first count is that of one of the kept real-time records fs, of that round
abbrev pub OfRound : List Kept → ℕ → ClosedAccumulation → Type 0
OfRound fs n a = Some (λ h. (at h ≡ a.report.first) × (round h ≡ n)) fs

-- the accumulation of the record f: it holds the type of f, and is of its round
abbrev pub Own : List Kept → Kept → ClosedAccumulation → Type 0
Own fs f a = (bit_set a.report.held (type_of f) ≡ true) × OfRound fs (round f) a

-- all that an accumulation holds is of the kept real-time records fs, of one round: each cell whose frame is held is that
-- record's science byte, each pair that record's pair; the other cells and pairs are 0
pub record Unmixed (fs : List Kept) (a : ClosedAccumulation) : Type 0 where
  pub of : ℕ
  pub first : OfRound fs of a
  pub cell : (p : ℕ) → p < cells → holds_cell a.report.held p ≡ true
      → Some (λ f. (type_of f ≡ carrier p) × (round f ≡ of) × (get_or a.cells p 0 ≡ get_or (science_bytes (packet f)) (byte_of p) 0)) fs
  pub no_cell : (p : ℕ) → p < cells → holds_cell a.report.held p ≡ false → get_or a.cells p 0 ≡ 0
  pub pair : (u : ℕ) → u < types → bit_set a.report.held u ≡ true
      → Some (λ f. (type_of f ≡ u) × (round f ≡ of) × (pair_at a.cells u ≡ top_pair (frame_code (packet f)))) fs
  pub no_pair : (u : ℕ) → u < types → bit_set a.report.held u ≡ false → pair_at a.cells u ≡ 0

-- cell p is filled: its frame is held, and the byte of one of the kept real-time records fs, of the type that carries it, stands
-- there
unfoldable pub has_byte : List Kept → ClosedAccumulation → ℕ → Bool
has_byte [] a p = false
has_byte (f ∷ fs) a p = (eqb (type_of f) (carrier p) && eqb (get_or a.cells p 0) (get_or (science_bytes (packet f)) (byte_of p) 0)) || has_byte fs a p

abbrev pub is_filled : List Kept → ClosedAccumulation → ℕ → Bool
is_filled fs a p = holds_cell a.report.held p && has_byte fs a p

-- the filled cells of all that is handed out
abbrev pub cells_filled : List Kept → Trace → ℕ
cells_filled fs t = sum (λ a. total (λ p. cond (is_filled fs a p) 1 0) cells) (accumulations t)

-- the major frame of the record f: it has its major number, and holds its slot
abbrev pub OwnMajor : Kept → ClosedMajor → Type 0
OwnMajor f m = (m.frame.number ≡ major f) × (bit_set m.frame.slots (slot f) ≡ true)

-- all that a major frame holds is of the kept records fs, of its number; the rest is 0
pub record UnmixedMajor (fs : List Kept) (m : ClosedMajor) : Type 0 where
  pub held : (i : ℕ) → i < slots → bit_set m.frame.slots i ≡ true → Some (λ f. (slot f ≡ i) × Slotted f m) fs
  pub unheld : (i : ℕ) → i < slots → bit_set m.frame.slots i ≡ false → NoSlot i m
  pub marked : (i : ℕ) → i < slots → bit_set m.frame.mag_slots i ≡ true → Some (λ f. (slot f ≡ i) × (major f ≡ m.frame.number) × Sampled f m) (magged fs)
  pub unmarked : (i : ℕ) → i < slots → bit_set m.frame.mag_slots i ≡ false → NoMag i m

-- proved as `once_each` in proofs/Once.antt
pub record OnceEach (c k : ℕ) (xs : List Fate) (t : Trace) : Type 0 where
  -- "every real-time frame left unspoiled has each of its 83 science bytes in exactly one cell, its own"
  pub one : Every (λ f. ExactlyOne (Own (real_unspoiled c k xs) f) (accumulations t)) (real_unspoiled c k xs)
  pub there : Every (λ f. Every (λ a. Own (real_unspoiled c k xs) f a → Stands f a) (accumulations t)) (real_unspoiled c k xs)
  -- "no accumulation handed out holds bytes of two that were sent"
  pub unmixed : Every (Unmixed (real_unspoiled c k xs)) (accumulations t)
  -- "a sent one is torn in two only where 36 or more counts weren't accepted between two neighbouring accepted real-time frames":
  -- some accumulation is both's, or so many weren't
  pub torn : (p f : Kept) → Neighbours p f (real_unspoiled c k xs) → round p ≡ round f
      → Some (λ a. Own (real_unspoiled c k xs) p a × Own (real_unspoiled c k xs) f a) (accumulations t) ⊎ (tears ≤ unaccepted (unspoiled c k xs) (at p) (at f))
  -- "the cells filled number 83 times the real-time frames left unspoiled"
  pub filled : cells_filled (real_unspoiled c k xs) t ≡ science_size * length (real_unspoiled c k xs)
  -- every kept record stands in its major frame and slot, of exactly one handed out; all else there is 0
  pub one_major : Every (λ f. ExactlyOne (OwnMajor f) (majors t)) (unspoiled c k xs)
  pub there_major : Every (λ f. Every (λ m. OwnMajor f m → Slotted f m) (majors t)) (unspoiled c k xs)
  pub unmixed_major : Every (UnmixedMajor (unspoiled c k xs)) (majors t)
  -- each packet of types 36 to 55 of the kept records, by its place among them: its 82 bytes stand in exactly one snapshot handed out,
  -- told by its place, in their place there; each byte handed out is a held packet's, or 0; two neighbours stand in one exactly when
  -- 02's rule joins them; "82 a packet of 36 to 55 left unspoiled"
  pub one_snapshot : (i : ℕ) (f : Packet) → At i f (snap_packets (unspoiled c k xs)) → ExactlyOne (HasPacket i) (placed_snapshots t)
  pub there_snapshot : (i : ℕ) (f : Packet) → At i f (snap_packets (unspoiled c k xs))
      → Every (λ e. HasPacket i e → PacketStands f e.thing) (placed_snapshots t)
  pub unmixed_snapshot : Every (UnmixedSnapshot (snap_packets (unspoiled c k xs))) (placed_snapshots t)
  pub joined_where : (i : ℕ) (p f : Packet) → At i p (snap_packets (unspoiled c k xs)) → At (suc i) f (snap_packets (unspoiled c k xs))
      → Some (HasNext i) (placed_snapshots t) ↔ Together (unspoiled c k xs) p f
  pub snapshot_filled : bytes_filled (snap_packets (unspoiled c k xs)) t ≡ burst_size * length (snap_packets (unspoiled c k xs))
