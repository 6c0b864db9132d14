-- What stands in the snapshots that are handed out (02, request 2).
-- Assumes nothing.
use Rattle.std.specs.Prelude.{◌≡◌, Bool, true, false, cond, ◌&&◌, ◌||◌, List, [], ◌∷◌, ℕ, ◌+◌, ◌%◌, ◌^◌, ◌<◌, eqb, length, get_or}
use Rattle.prelude.specs.Every.{Every}
use Rattle.prelude.specs.Marks.{bit_set}
use Rattle.bursts.specs.Bursts.{first_packet, packets, burst_size, snapshot_size, place, carrier_of}
use Rattle.snapshot.specs.Snapshot.{packet_type, mark_of}
use Rattle.listing.specs.Lines.{packets_held}
use Rattle.gathering.specs.Lists.{sum, total}
use Rattle.gathering.specs.Places.{At, Placed, placed, HasItem, HasBoth}
use Rattle.stream.specs.Running.{Trace, ClosedSnapshot, snapshots}
use Rattle.stream.specs.Cutting.{at}
use Rattle.stream.specs.Bursts.{Packet}

-- the mark of a packet's type: 0 for 36, 19 for 55
abbrev pub mark : Packet → ℕ
mark f = mark_of f.code

-- a packet in its place: byte k of the packet of type t stands at place t k, as 000's table has it (section 2.4.1), no two bytes in one
-- place, and no place left out (`once` in bursts/Carries)
pub record PacketStands (f : Packet) (s : ClosedSnapshot) : Type 0 where
  pub held : bit_set s.report.held (mark f) ≡ true
  pub bytes : (k : ℕ) → k < burst_size → get_or s.bytes (place (packet_type f.code) k) 0 ≡ get_or f.bytes k 0

-- a packet that isn't there: no mark, and its bytes are 0
pub record NoPacket (u : ℕ) (s : ClosedSnapshot) : Type 0 where
  pub unheld : bit_set s.report.held u ≡ false
  pub bytes : (k : ℕ) → k < burst_size → get_or s.bytes (place (first_packet + u) k) 0 ≡ 0

abbrev pub first_brought : List Packet → ℕ
first_brought [] = 0
first_brought (f ∷ fs) = at f.frame

-- the snapshot that holds just these packets
pub record SnapshotFilled (g : List Packet) (s : ClosedSnapshot) : Type 0 where
  pub first : s.report.first ≡ first_brought g
  pub held : packets_held s.report ≡ length g
  pub among : s.report.held < 2 ^ packets
  pub size : length s.bytes ≡ snapshot_size
  pub own : Every (λ f. PacketStands f s) g
  pub others : (u : ℕ) → u < packets → Every (λ f. mark f ≡ u → ⊥) g → NoPacket u s

-- Two can have one first count, so each is told by its place among those handed out, and by how many packets stand in those before it:
-- the packet at place i among those of types 36 to 55 is in the one that has it.
abbrev pub placed_snapshots : Trace → List (Placed ClosedSnapshot)
placed_snapshots t = placed (λ (s : ClosedSnapshot). packets_held s.report) 0 0 (snapshots t)

abbrev pub HasPacket : ℕ → Placed ClosedSnapshot → Type 0
HasPacket = HasItem (λ (s : ClosedSnapshot). packets_held s.report)

-- the packet of number i stands in it, and the next one too
abbrev pub HasNext : ℕ → Placed ClosedSnapshot → Type 0
HasNext = HasBoth (λ (s : ClosedSnapshot). packets_held s.report)

-- byte p comes from one of the packets ps, that is in it
pub record FromPacket (ps : List Packet) (e : Placed ClosedSnapshot) (p : ℕ) : Type 0 where
  pub among : ℕ
  pub packet : Packet
  pub is : At among packet ps
  pub in_it : HasPacket among e
  pub carries : mark packet ≡ carrier_of p
  pub byte : get_or e.thing.bytes p 0 ≡ get_or packet.bytes (p % burst_size) 0

-- each byte whose packet is held is that packet's, and each other byte is 0
pub record UnmixedSnapshot (ps : List Packet) (e : Placed ClosedSnapshot) : Type 0 where
  pub held : (p : ℕ) → p < snapshot_size → bit_set e.thing.report.held (carrier_of p) ≡ true → FromPacket ps e p
  pub unheld : (p : ℕ) → p < snapshot_size → bit_set e.thing.report.held (carrier_of p) ≡ false → get_or e.thing.bytes p 0 ≡ 0

-- byte p is filled: its packet is held, and the byte of one of the packets ps, of the type that carries it, stands there
unfoldable pub has_packet_byte : List Packet → ClosedSnapshot → ℕ → Bool
has_packet_byte [] s p = false
has_packet_byte (f ∷ fs) s p =
    (eqb (mark f) (carrier_of p) && eqb (get_or s.bytes p 0) (get_or f.bytes (p % burst_size) 0)) || has_packet_byte fs s p

abbrev pub is_byte_filled : List Packet → ClosedSnapshot → ℕ → Bool
is_byte_filled ps s p = bit_set s.report.held (carrier_of p) && has_packet_byte ps s p

-- the filled bytes of all snapshots that are handed out
abbrev pub bytes_filled : List Packet → Trace → ℕ
bytes_filled ps t = sum (λ s. total (λ p. cond (is_byte_filled ps s p) 1 0) snapshot_size) (snapshots t)
