-- The sums of the layout: the parts lie one after another, and the packets are as long as they are.
-- Assumes nothing.
use mathlib.Core.Path.{◌≡◌, refl}
use Prim.Native.Nat.{◌+◌, ◌*◌}
use Rattle.bursts.specs.Bursts.{packets, burst_size, snapshot_size, header_part, three_part, pitch_part, angles_part, table_part}

pub three_next : header_part.at + header_part.size ≡ three_part.at
three_next = refl

pub pitch_next : three_part.at + three_part.size ≡ pitch_part.at
pitch_next = refl

pub angles_next : pitch_part.at + pitch_part.size ≡ angles_part.at
angles_next = refl

pub table_next : angles_part.at + angles_part.size ≡ table_part.at
table_next = refl

pub parts_end : table_part.at + table_part.size ≡ snapshot_size
parts_end = refl

pub packets_end : packets * burst_size ≡ snapshot_size
packets_end = refl

-- "The 1320 bytes of 3D data", 15 steps of 88 angles; "16 pitch angle samples for each of 15 energies" (000, section 2.4.1)
pub three_size : 15 * 88 ≡ three_part.size
three_size = refl

pub pitch_size : 15 * 16 ≡ pitch_part.size
pitch_size = refl
