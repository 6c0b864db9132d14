-- Which bytes of a snapshot each burst packet carries: the layout of its 1,640 bytes (02, request 2) and the table of 000, section
-- 2.4.1.
-- Assumes nothing.
use Rattle.std.specs.Prelude.{ℕ, ◌+◌, ◌*◌, ◌-◌, ◌/◌, ◌%◌, ◌<◌, ◌≤◌, Bool, true, ◌&&◌, List, [], ◌∷◌, map, ◌≡◌, leb, get_or}
use Rattle.carriage.specs.Carriage.{Run, bytes, total_size, place_in}

-- "types 36 to 55 make 1,640 bytes"; "Burst packets consist of 82 bytes of data plus a type code" (000, section 2.4)
abbrev pub first_packet : ℕ
first_packet = 36

abbrev pub packets : ℕ
packets = 20

abbrev pub burst_size : ℕ
burst_size = 82

abbrev pub snapshot_size : ℕ
snapshot_size = 1640

-- "(header 4, 3D 1,320, pitch angle 240, angles 4, table 72)", one after another
abbrev pub header_part : Run
header_part = record { at = 0; size = 4 }

abbrev pub three_part : Run
three_part = record { at = 4; size = 1320 }

abbrev pub pitch_part : Run
pitch_part = record { at = 1324; size = 240 }

abbrev pub angles_part : Run
angles_part = record { at = 1564; size = 4 }

abbrev pub table_part : Run
table_part = record { at = 1568; size = 72 }

-- what the table names, as it prints it: "ER Header (4 bytes)", "3D data bytes 0-77", "PA data bytes 0-69", "MagAngles (4 bytes)",
-- "ER Table (72 bytes)"
pub data Item : Type 0 where
  header : ℕ → Item
  three_d : ℕ → ℕ → Item
  pitch : ℕ → ℕ → Item
  angles : ℕ → Item
  table : ℕ → Item

-- a row of the table: its packet type, and what is in its 82 bytes, in their order
pub record Row : Type 0 where
  pub type : ℕ
  pub items : List Item

abbrev pub contains : ℕ → List Item → Row
contains t items = record { type = t; items = items }

-- 000, section 2.4.1: "The 20 Burst ER packets contain". Type 50's 1144 is printed 1044: "must be 1144, or cells collide" (02)
unfoldable pub rows : List Row
rows =
    contains 36 (header 4 ∷ three_d 0 77 ∷ [])
    ∷ contains 37 (three_d 78 159 ∷ [])
    ∷ contains 38 (three_d 160 241 ∷ [])
    ∷ contains 39 (three_d 242 323 ∷ [])
    ∷ contains 40 (three_d 324 405 ∷ [])
    ∷ contains 41 (three_d 406 487 ∷ [])
    ∷ contains 42 (three_d 488 569 ∷ [])
    ∷ contains 43 (three_d 570 651 ∷ [])
    ∷ contains 44 (three_d 652 733 ∷ [])
    ∷ contains 45 (three_d 734 815 ∷ [])
    ∷ contains 46 (three_d 816 897 ∷ [])
    ∷ contains 47 (three_d 898 979 ∷ [])
    ∷ contains 48 (three_d 980 1061 ∷ [])
    ∷ contains 49 (three_d 1062 1143 ∷ [])
    ∷ contains 50 (three_d 1144 1225 ∷ [])
    ∷ contains 51 (three_d 1226 1307 ∷ [])
    ∷ contains 52 (three_d 1308 1319 ∷ pitch 0 69 ∷ [])
    ∷ contains 53 (pitch 70 151 ∷ [])
    ∷ contains 54 (pitch 152 233 ∷ [])
    ∷ contains 55 (pitch 234 239 ∷ angles 4 ∷ table 72 ∷ [])
    ∷ []

abbrev pub row_of : ℕ → Row
row_of t = get_or rows (t - first_packet) (contains 0 [])

-- the part of the snapshot that an item belongs to, and which of that part's bytes it has
abbrev pub part_of : Item → Run
part_of (header n) = header_part
part_of (three_d a z) = three_part
part_of (pitch a z) = pitch_part
part_of (angles n) = angles_part
part_of (table n) = table_part

abbrev pub run_of : Item → Run
run_of (header n) = record { at = 0; size = n }
run_of (three_d a z) = bytes a z
run_of (pitch a z) = bytes a z
run_of (angles n) = record { at = 0; size = n }
run_of (table n) = record { at = 0; size = n }

-- an item's bytes in the snapshot; that they are bytes of its part
abbrev pub item_run : Item → Run
item_run i = record { at = (part_of i).at + (run_of i).at; size = (run_of i).size }

abbrev pub is_in_part : Item → Bool
is_in_part i = leb ((run_of i).at + (run_of i).size) (part_of i).size

abbrev pub all_in_part : List Item → Bool
all_in_part [] = true
all_in_part (i ∷ is) = is_in_part i && all_in_part is

abbrev pub runs_of : Row → List Run
runs_of r = map item_run r.items

-- where byte k of the packet of type t stands in the snapshot
unfoldable pub place : ℕ → ℕ → ℕ
place t k = place_in (runs_of (row_of t)) k

-- where the bytes of the packet of type t begin; and of byte p of the snapshot the packet that carries it, by its mark: 0 for type
-- 36, 19 for type 55
abbrev pub packet_place : ℕ → ℕ
packet_place t = burst_size * (t - first_packet)

abbrev pub carrier_of : ℕ → ℕ
carrier_of p = p / burst_size

-- packet t carries bytes 82 (t - 36) to 82 (t - 36) + 81, in order
pub record Carried (t : ℕ) : Type 0 where
  pub type : (row_of t).type ≡ t
  pub in_part : all_in_part (row_of t).items ≡ true
  pub size : total_size (runs_of (row_of t)) ≡ burst_size
  pub in_order : (k : ℕ) → k < burst_size → place t k ≡ packet_place t + k

-- each of the 1,640 once: byte p is one byte of one packet, and no other's
pub record Once (p : ℕ) : Type 0 where
  pub is_packet_lem : carrier_of p < packets
  pub is : place (first_packet + carrier_of p) (p % burst_size) ≡ p
  pub only : (t k : ℕ) → first_packet ≤ t → t < first_packet + packets → k < burst_size → place t k ≡ p
      → (t ≡ first_packet + carrier_of p) × (k ≡ p % burst_size)
