-- The burst packets of the kept records, and which of them stand together in what is handed out (02, request 2). Nothing is said of which
-- burst a packet came from, beyond 02's rule for joining.
-- Assumes nothing.
use Rattle.std.specs.Prelude.{◌≡◌, Bool, true, false, cond, ◌&&◌, ◌||◌, List, [], ◌∷◌, ◌++◌, ℕ, ◌+◌, ◌<◌, ltb, leb, length}
use Rattle.record.specs.Layout.{packet_bytes, frame_code, second_code}
use Rattle.record.specs.Frame.{carries_burst, carries_two}
use Rattle.record.specs.Parts.{burst_bytes}
use Rattle.record.specs.Contents.{record_of}
use Rattle.snapshot.specs.Snapshot.{packet_type, is_part, cuts}
use Rattle.gathering.specs.Lists.{those, Cut}
use Rattle.stream.specs.Sending.{Kept}
use Rattle.stream.specs.Cutting.{at, unaccepted}

-- a burst packet: the record that brought it, its type byte, its 82 bytes, and its number among all burst packets of the kept records
pub record Packet : Type 0 where
  pub frame : Kept
  pub code : ℕ
  pub bytes : List ℕ
  pub number : ℕ

abbrev pub first_of : ℕ → Kept → Packet
first_of n x = record { frame = x; code = frame_code (packet_bytes x.bytes); bytes = burst_bytes (packet_bytes x.bytes) false; number = n }

abbrev pub second_of : ℕ → Kept → Packet
second_of n x = record { frame = x; code = second_code (packet_bytes x.bytes); bytes = burst_bytes (packet_bytes x.bytes) true; number = n }

-- the burst packets of a record, from number n on: "a frame with one burst packet", "a full burst frame has two", and any other none
abbrev pub packets_of : ℕ → Kept → List Packet
packets_of n x =
    cond (carries_two (record_of x.bytes).kind) (first_of n x ∷ second_of (n + 1) x ∷ [])
    (cond (carries_burst (record_of x.bytes).kind) (first_of n x ∷ []) [])

unfoldable pub packets_from : ℕ → List Kept → List Packet
packets_from n [] = []
packets_from n (x ∷ xs) = packets_of n x ++ packets_from (n + length (packets_of n x)) xs

-- "Every packet of a burst frame counts, 56, 57 and 62 too": all of them, and those of types 36 to 55
abbrev pub burst_packets : List Kept → List Packet
burst_packets ks = packets_from 0 ks

abbrev pub is_packet : Packet → Bool
is_packet q = is_part q.code

abbrev pub snap_packets : List Kept → List Packet
snap_packets ks = those is_packet (burst_packets ks)

-- a packet after number i, up to and with number j, has bit 6 set
unfoldable pub cut_between : List Packet → ℕ → ℕ → Bool
cut_between [] i j = false
cut_between (q ∷ qs) i j = (ltb i q.number && (leb q.number j && cuts q.code)) || cut_between qs i j

-- two neighbours of types 36 to 55 stand in one snapshot exactly when "its type is above the last one held, every count since was
-- accepted, and bit 6 was set in no burst packet's type byte since, nor in its own", said of what was kept: of the counts between
-- their frames all were, and of the packets after the one, up to and with the other, none has bit 6
pub record Together (ks : List Kept) (p f : Packet) : Type 0 where
  pub rising : packet_type p.code < packet_type f.code
  pub kept : unaccepted ks (at p.frame) (at f.frame) ≡ 0
  pub quiet : cut_between (burst_packets ks) p.number f.number ≡ false

abbrev pub Apart : List Kept → Packet → Packet → Type 0
Apart ks p f = Together ks p f → ⊥

abbrev pub SnapshotCut : List Kept → List (List Packet) → Type 0
SnapshotCut ks gs = Cut (Together ks) (Apart ks) gs
