-- The lines of the listing (01, "The listing, whole").
-- Assumes nothing.
use Rattle.std.specs.Prelude.{ℕ, ◌+◌, ◌*◌, ◌^◌, cond, List, [], ◌∷◌, ◌++◌, ltb, Option, Some, None}
use Rattle.std.specs.Int.Count.{ones}
use Rattle.mag.specs.Samples.{samples_size}
use Rattle.carriage.specs.Carriage.{science_size}
use Rattle.bursts.specs.Bursts.{burst_size}
use Rattle.accumulation.specs.declared.AccumulationReport.{AccumulationReport}
use Rattle.major.specs.declared.Major.{Major}
use Rattle.snapshot.specs.declared.SnapshotReport.{SnapshotReport}
use Rattle.state.specs.declared.closed.Closed.{Closed}
use Rattle.listing.specs.Text.{ascii, space}
use Rattle.listing.specs.Decimal.{decimal, digits}

unfoldable pub header : List ℕ
header = ascii "kind first frames cells\n"

abbrev pub header_size : ℕ
header_size = 24

-- a space and the number, before the rest of a line
abbrev pub spaced : ℕ → List ℕ → List ℕ
spaced n rest = (space ∷ decimal n) ++ rest

-- a word and three numbers
unfoldable pub line_of : List ℕ → ℕ → ℕ → ℕ → List ℕ
line_of word first frames cells = word ++ spaced first (spaced frames (spaced cells (ascii "\n")))

-- the longest word
abbrev pub word_size : ℕ
word_size = 5

-- the longest such line
abbrev pub line_size : ℕ
line_size = word_size + 3 * (1 + digits) + 1

-- "A major frame's first is 16 x its number, its frames the number of slots held, its cells 54 per MAG slot."
abbrev pub slots_held : Major → ℕ
slots_held m = ones m.slots

abbrev pub samples_held : Major → ℕ
samples_held m = samples_size * ones m.mag_slots

unfoldable pub frame_line : Major → List ℕ
frame_line m = line_of (ascii "major") (16 * m.number) (slots_held m) (samples_held m)

-- nothing where none closed; nor where its first would leave 64 bits, which no state that keeps 01's list leads to
-- (`always_listed` in proofs/Closings.antt)
unfoldable pub major_line : Option Major → List ℕ
major_line None = []
major_line (Some m) = cond (ltb (16 * m.number) (2 ^ 64)) (frame_line m) []

-- "for an accumulation, the count of its first frame"; the frames it holds, and their cells
abbrev pub frames_held : AccumulationReport → ℕ
frames_held r = ones r.held

abbrev pub cells_held : AccumulationReport → ℕ
cells_held r = science_size * frames_held r

unfoldable pub accum_line : Option AccumulationReport → List ℕ
accum_line None = []
accum_line (Some r) = line_of (ascii "accum") r.first (frames_held r) (cells_held r)

-- "the listing says snap, 82 cells a packet" (02, request 2); the rest "as for accumulations"
abbrev pub packets_held : SnapshotReport → ℕ
packets_held r = ones r.held

abbrev pub snap_cells_held : SnapshotReport → ℕ
snap_cells_held r = burst_size * packets_held r

unfoldable pub snap_line : Option SnapshotReport → List ℕ
snap_line None = []
snap_line (Some r) = line_of (ascii "snap") r.first (packets_held r) (snap_cells_held r)

-- "One record may close both; the major frame is reported first." "A frame can close two" snapshots, "reported last", in the order in
-- which they close
unfoldable pub closed_lines : Closed → List ℕ
closed_lines c = major_line c.major ++ (accum_line c.accumulation ++ (snap_line c.first_snapshot ++ snap_line c.second_snapshot))

abbrev pub closed_size : ℕ
closed_size = 4 * line_size

-- "the last line counts them"
unfoldable pub refused_line : ℕ → List ℕ
refused_line n = ascii "refused" ++ spaced n (ascii "\n")

abbrev pub refused_size : ℕ
refused_size = 7 + (1 + digits) + 1
