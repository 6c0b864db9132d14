-- 01's printed listing: "Accepted counts 32 and 48, both type 0"; and lines of snapshots (02, request 2).
-- Assumes nothing.
use mathlib.Core.Path.{◌≡◌, refl}
use mathlib.Core.List.{[], ◌++◌}
use Prim.Native.Nat.{ℕ}
use lib.Count.{ones, ones_in}
use Rattle.std.specs.Prelude.{Option, Some, None}
use Rattle.accumulation.specs.declared.AccumulationReport.{AccumulationReport}
use Rattle.major.specs.declared.Major.{Major}
use Rattle.state.specs.declared.closed.Closed.{Closed}
use Rattle.listing.specs.Text.{ascii}
use Rattle.listing.specs.Decimal.{decimal}
use Rattle.listing.specs.Lines.{header, line_of, frame_line, major_line, accum_line, snap_line, closed_lines, refused_line}

-- a major frame with its first slot, and an accumulation with type 0
abbrev slot_only : ℕ → Option Major
slot_only n = Some (record { number = n; slots = 1; mag_slots = 1; ranges = []; words = [] })

abbrev type_only : ℕ → Option AccumulationReport
type_only count = Some (record { first = count; held = 1 })

-- closed together, by a record of the next major frame or by finish
abbrev both : ℕ → ℕ → Closed
both n count = record { major = slot_only n; accumulation = type_only count; first_snapshot = None; second_snapshot = None }

pub printed : header ++ (closed_lines (both 2 32) ++ (closed_lines (both 3 48) ++ refused_line 0))
    ≡ ascii "kind first frames cells\nmajor 32 1 54\naccum 32 1 83\nmajor 48 1 54\naccum 48 1 83\nrefused 0\n"
unfolding header line_of frame_line major_line accum_line snap_line closed_lines refused_line decimal ones ones_in
printed = refl

-- a real-time frame at count 32, a full burst at 33 with packets 36 and 37, and one at 48 with packets 37 and 36: that closes the major
-- frame, the snapshot from 33, and the one that its own first packet opens
abbrev two_snaps : Closed
two_snaps = record {
  major = Some (record { number = 2; slots = 3; mag_slots = 1; ranges = []; words = [] });
  accumulation = None;
  first_snapshot = Some (record { first = 33; held = 3 });
  second_snapshot = Some (record { first = 48; held = 2 });
}

pub with_bursts : closed_lines two_snaps ≡ ascii "major 32 2 54\nsnap 33 2 164\nsnap 48 1 82\n"
unfolding line_of frame_line major_line accum_line snap_line closed_lines decimal ones ones_in
with_bursts = refl
