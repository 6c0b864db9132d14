-- Where things stand in the record (01, "The record"; the label, 002) and in the packet (000, section 2).
-- Assumes nothing.
use Rattle.std.specs.Prelude.{ℕ, ◌+◌, ◌*◌, ◌%◌, List, get_or, take, drop}
use Rattle.bits.specs.Numbers.{most, number}

-- bytes in a record (002: RECORD_BYTES = 472) and in a packet
abbrev pub size : ℕ
size = 472

abbrev pub packet_size : ℕ
packet_size = 168

-- the packet's first byte (002: START_BYTE = 287, counted from 1)
abbrev pub packet_at : ℕ
packet_at = 286

-- n bits from bit j of byte k: the label's "START_BIT", counted from 0, in a column that starts at byte k
abbrev pub bits_at : List ℕ → ℕ → ℕ → ℕ → ℕ
bits_at r k j n = number most r (8 * k + j) n

-- n whole bytes from byte k
abbrev pub bytes_at : List ℕ → ℕ → ℕ → ℕ
bytes_at r k n = number most r (8 * k) (8 * n)

-- The columns of the label, each under its NAME there.

-- SYNC_CODE
abbrev pub sync : List ℕ → ℕ
sync r = bytes_at r 0 4

-- VCDU_HEADER: VERSION_ID
abbrev pub version : List ℕ → ℕ
version r = bits_at r 4 0 2

-- VCDU_HEADER: SPACECRAFT_ID
abbrev pub spacecraft : List ℕ → ℕ
spacecraft r = bits_at r 4 2 8

-- VCDU_HEADER: TELEMETRY_RATE_CODE
abbrev pub rate : List ℕ → ℕ
rate r = bits_at r 4 10 6

-- SPACECRAFT_CLOCK_COUNT
abbrev pub count : List ℕ → ℕ
count r = bytes_at r 6 3

-- SPARE_1
abbrev pub spare : List ℕ → ℕ
spare r = bytes_at r 9 1

-- MAG_ER_PACKET
abbrev pub packet_bytes : List ℕ → List ℕ
packet_bytes r = take packet_size (drop packet_at r)

-- EARTH_RECEIVED_TIME: "two bytes are day of year, ..
abbrev pub day : List ℕ → ℕ
day r = bytes_at r 456 2

-- .. four bytes are millisecond of day"
abbrev pub millisecond : List ℕ → ℕ
millisecond r = bytes_at r 458 4

-- AUTOMATIC_GAIN_CONTROL: "Downlink received signal level"
abbrev pub level : List ℕ → ℕ
level r = bytes_at r 462 4

-- SIGNAL_QUALITY_INDICATOR
abbrev pub quality : List ℕ → ℕ
quality r = bytes_at r 466 4

-- STATUS_FLAGS: SPARE_2
abbrev pub status_spare : List ℕ → ℕ
status_spare r = bits_at r 470 0 10

-- STATUS_FLAGS: FIRST_STATUS_FLAG
abbrev pub first_flag : List ℕ → ℕ
first_flag r = bits_at r 470 10 2

-- STATUS_FLAGS: SECOND_STATUS_FLAG
abbrev pub second_flag : List ℕ → ℕ
second_flag r = bits_at r 470 12 2

-- STATUS_FLAGS: THIRD_STATUS_FLAG
abbrev pub third_flag : List ℕ → ℕ
third_flag r = bits_at r 470 14 2

-- the packet's first three bytes: the Frame Code, then the Digital Subcom word (000, section 2), high byte first (01)
abbrev pub frame_code : List ℕ → ℕ
frame_code p = get_or p 0 0

abbrev pub subcom : List ℕ → ℕ
subcom p = bytes_at p 1 2

-- "The 6 LSB of the Frame Code are the Frame Type" (000, section 2.1)
abbrev pub type_in : ℕ → ℕ
type_in code = code % 64

abbrev pub frame_type : List ℕ → ℕ
frame_type p = type_in (frame_code p)

-- then, of a real-time frame, the 82 MAG bytes and the 83 ER bytes (01, "The packet")
abbrev pub mag_at : ℕ
mag_at = 3

abbrev pub mag_count : ℕ
mag_count = 82

abbrev pub science_at : ℕ
science_at = 85

abbrev pub science_count : ℕ
science_count = 83

abbrev pub mag_bytes : List ℕ → List ℕ
mag_bytes p = take mag_count (drop mag_at p)

abbrev pub science_bytes : List ℕ → List ℕ
science_bytes p = take science_count (drop science_at p)

-- Of a burst frame (000, sections 2.1.2, 2.1.3): 82 bytes from 3 on, as MAG is; byte 85; 82 bytes from 86 on

-- "Record #2 Frame Code"
abbrev pub second_code : List ℕ → ℕ
second_code p = get_or p 85 0

abbrev pub second_at : ℕ
second_at = 86

abbrev pub burst_count : ℕ
burst_count = 82
