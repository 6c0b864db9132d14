-- What may be said of a byte of a snapshot (02, request 2: "absent packets are as for accumulations"): "no such place" is tested
-- before "absent".
-- Assumes nothing.
use Rattle.std.specs.Prelude.{ℕ, ◌+◌, Bool, ◌&&◌, List, ltb, get_or, Result}
use Rattle.prelude.specs.Marks.{bit_set}
use Rattle.bursts.specs.Bursts.{packets, snapshot_size, angles_part, carrier_of}
use Rattle.cells.specs.Bytes.{askable_of, RawIs}
use Rattle.cells.specs.declared.missing.Missing.{Missing}

-- the packet that carries byte p is held when its mark is set
abbrev pub holds_byte : ℕ → ℕ → Bool
holds_byte held p = bit_set held (carrier_of p)

-- a snapshot of its size, and no mark past type 55
abbrev pub askable : List ℕ → ℕ → Bool
askable = askable_of snapshot_size packets

abbrev pub is_byte : List ℕ → ℕ → ℕ → Bool
is_byte s held p = askable s held && ltb p snapshot_size

abbrev pub ByteIs : List ℕ → ℕ → ℕ → Result ℕ Missing → Type 0
ByteIs s held p = RawIs (is_byte s held p) (holds_byte held p) (get_or s p 0)

-- the magnetic samples: "0 MagTh #0, 1 MagPhi #0, 2 MagTh #1, 3 MagPhi #1" (000, section 2.4.1)
abbrev pub mag_angle_byte : ℕ → ℕ
mag_angle_byte k = angles_part.at + k

abbrev pub is_mag_angle : List ℕ → ℕ → ℕ → Bool
is_mag_angle s held k = askable s held && ltb k angles_part.size

abbrev pub MagAngleIs : List ℕ → ℕ → ℕ → Result ℕ Missing → Type 0
MagAngleIs s held k = RawIs (is_mag_angle s held k) (holds_byte held (mag_angle_byte k)) (get_or s (mag_angle_byte k) 0)
