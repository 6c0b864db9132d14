-- The packet part of a record, and the parts of a packet (01, "The record", "The packet"; 02, request 2).
-- Assumes nothing.
use Rattle.std.specs.Prelude.{ℕ, ◌+◌, Bool, cond, not, ◌&&◌, List, [], ◌≡◌, eqb, length, take, drop}
use Rattle.record.specs.Layout.{size, packet_at, packet_size, packet_bytes, mag_at, mag_count, science_at, science_count}
use Rattle.record.specs.Layout.{second_at, burst_count}
use Rattle.record.specs.Frame.{kind_of, carries_burst, carries_two}
use Rattle.record.specs.Rules.{broken}
use Rattle.record.specs.declared.frame.Kind.{Kind}

-- a part handed back: n bytes of b from place `at` on where the test holds, else none; and that they are the caller's own. A slice
-- lies in a block of memory, the place's `.0`, from an offset on, its `.1`: the part lies in b's block, `at` bytes on (the empty
-- part at its start)
pub record PartIs (holds : Bool) (at n : ℕ) (b : List ℕ) (from : ℕ × ℕ) (p : List ℕ) (place : ℕ × ℕ) : Type 0 where
  pub bytes : p ≡ cond holds (take n (drop at b)) []
  pub block : place.0 ≡ from.0
  pub offset : place.1 ≡ cond holds (at + from.1) from.1

-- bytes 286 to 453, "or an empty part when rules 2 to 11 fail"
abbrev pub packet_of : List ℕ → List ℕ
packet_of r = cond (eqb (broken r) 0) (packet_bytes r) []

abbrev pub PacketIs : List ℕ → ℕ × ℕ → List ℕ → ℕ × ℕ → Type 0
PacketIs r = PartIs (eqb (broken r) 0) packet_at packet_size r

-- the packet's bytes of anything of a record's size
abbrev pub PacketAtIs : List ℕ → ℕ × ℕ → List ℕ → ℕ × ℕ → Type 0
PacketAtIs r = PartIs (eqb (length r) size) packet_at packet_size r

-- "We read bytes ... 3-84 as MAG, 85-167 as ER": `mag_bytes` and `science_bytes` (Layout) of a packet; of bytes of another size none
abbrev pub MagIs : List ℕ → ℕ × ℕ → List ℕ → ℕ × ℕ → Type 0
MagIs p = PartIs (eqb (length p) packet_size) mag_at mag_count p

abbrev pub ScienceIs : List ℕ → ℕ × ℕ → List ℕ → ℕ × ℕ → Type 0
ScienceIs p = PartIs (eqb (length p) packet_size) science_at science_count p

-- a burst frame's packets (000, sections 2.1.2, 2.1.3): "82 byte burst playback record #1" at 3-84 and "#2" at 86-167 in a full burst,
-- the one of a half burst at 86-167
abbrev pub has_burst : Kind → Bool → Bool
has_burst k second = cond second (carries_two k) (carries_burst k)

abbrev pub burst_at : Kind → Bool → ℕ
burst_at k second = cond (not second && carries_two k) mag_at second_at

abbrev pub burst_bytes : List ℕ → Bool → List ℕ
burst_bytes p second = take burst_count (drop (burst_at (kind_of p) second) p)

abbrev pub burst_part : List ℕ → Bool → List ℕ
burst_part p second = cond (has_burst (kind_of p) second) (burst_bytes p second) []

abbrev pub BurstIs : List ℕ → Bool → ℕ × ℕ → List ℕ → ℕ × ℕ → Type 0
BurstIs p second = PartIs (has_burst (kind_of p) second) (burst_at (kind_of p) second) burst_count p
