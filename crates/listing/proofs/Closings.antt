-- What closed, as lines: none where nothing did.
-- Assumes nothing.
use mathlib.Core.Path.{◌≡◌, refl}
use mathlib.Core.Bool.{Bool, true, false, cond}
use mathlib.Core.List.{List, []}
use Prim.Native.Nat.{ℕ, ◌*◌, ◌^◌, ◌<◌, ◌≤◌}
use native.Mathlib.Omega.{arith}
use lib.Count.{ones}
use lib.Dec.{eqb, ltb}
use lib.ListN.{length, length-append}
use borrow.Author.Tests.{lt-ltb, le-ltb, eqb-false, not-true}
use Rattle.std.specs.Prelude.{Option, Some, None}
use Rattle.clock.proofs.Laws.{last_below}
use Rattle.accumulation.specs.declared.AccumulationReport.{AccumulationReport}
use Rattle.major.specs.Major.{major_open, major_reported}
use Rattle.major.specs.declared.Major.{Major}
use Rattle.major.proofs.Facts.{slots_of, current_slot}
use Rattle.snapshot.specs.declared.SnapshotReport.{SnapshotReport}
use Rattle.state.specs.Soundness.{sound}
use Rattle.state.specs.declared.State.{State}
use Rattle.state.specs.declared.closed.Closed.{Closed}
use Rattle.state.proofs.Facts.{facts}
use Rattle.listing.specs.Text.{ascii}
use Rattle.listing.specs.Lines.{word_size, line_size, line_of, slots_held, samples_held, frame_line, major_line, frames_held, cells_held, accum_line}
use Rattle.listing.specs.Lines.{packets_held, snap_cells_held, snap_line, closed_lines, closed_size}
use Rattle.listing.specs.Inner.Putting.{Puts}
use Rattle.listing.specs.declared.text.Page.{Page}
use Rattle.listing.proofs.Puts.{page_then}
use Rattle.listing.proofs.Digits.{length_decimal}

-- the longest line
pub length_line : (word : List ℕ) (first frames cells : ℕ) → length word ≤ word_size → length (line_of word first frames cells) ≤ line_size
unfolding line_of
length_line word first frames cells h =
    let a = length_decimal first in
    let b = length_decimal frames in
    let c = length_decimal cells in
    simp length-append (omega arith)

pub length_accum : (r : Option AccumulationReport) → length (accum_line r) ≤ line_size
unfolding accum_line
length_accum None = omega arith
length_accum (Some r) = length_line (ascii "accum") r.first (frames_held r) (cells_held r) (omega arith)

pub length_snap : (r : Option SnapshotReport) → length (snap_line r) ≤ line_size
unfolding snap_line
length_snap None = omega arith
length_snap (Some r) = length_line (ascii "snap") r.first (packets_held r) (snap_cells_held r) (omega arith)

pub length_major : (r : Option Major) → length (major_line r) ≤ line_size
unfolding major_line frame_line
length_major None = omega arith
length_major (Some m) = go (ltb (16 * m.number) (2 ^ 64))
  where
    line : List ℕ
    line = line_of (ascii "major") (16 * m.number) (slots_held m) (samples_held m)

    go : (t : Bool) → length (cond t line []) ≤ line_size
    go true = length_line (ascii "major") (16 * m.number) (slots_held m) (samples_held m) (omega arith)
    go false = omega arith

pub ruleset lengths = (length_major, length_accum, length_snap)

-- "no line too long for its buffer, whatever the counts"
pub length_closed : (c : Closed) → length (closed_lines c) ≤ closed_size
unfolding closed_lines
length_closed c =
    let m = length_major c.major in
    let a = length_accum c.accumulation in
    let s = length_snap c.first_snapshot in
    let t = length_snap c.second_snapshot in
    simp length-append (omega arith)

-- a line that would hold a number past 64 bits isn't put, and any other is
module _ (m : Major) where
  pub major_far : 2 ^ 60 ≤ m.number → [] ≡ major_line (Some m)
  unfolding major_line
  major_far l = rw (le-ltb (16 * m.number) (2 ^ 64) (omega arith)) refl

  pub major_near : m.number < 2 ^ 60
      → line_of (ascii "major") (16 * m.number) (ones m.slots) (54 * ones m.mag_slots) ≡ major_line (Some m)
  unfolding major_line frame_line
  major_near l = rw (lt-ltb (16 * m.number) (2 ^ 64) (omega arith)) refl

-- the lines, each put where the one before ends
pub closed_put : {p q r s t : Page} (c : Closed) → Puts p (major_line c.major) q → Puts q (accum_line c.accumulation) r
    → Puts r (snap_line c.first_snapshot) s → Puts s (snap_line c.second_snapshot) t → Puts p (closed_lines c) t
unfolding closed_lines
closed_put c m a x y = page_then m (page_then a (page_then x y))

-- no line is left out: a major frame that closes from a state that keeps 01's list has its number below 2^32
pub always_listed : (s : State) → sound s ≡ true → major_open s.major ≡ true → major_line (major_reported s.major) ≡ frame_line s.major
unfolding major_line
always_listed s h o =
    let f = facts s h in
    let m = s.major in
    let z = eqb-false m.slots 0 (not-true (eqb m.slots 0) o) in
    let n = (current_slot s.clock m (slots_of s.clock m f.major).current z).0 in
    let l = last_below s.clock f.clock in
    let b : 16 * m.number < 2 ^ 64 = omega arith in
    rw (o, lt-ltb) refl
