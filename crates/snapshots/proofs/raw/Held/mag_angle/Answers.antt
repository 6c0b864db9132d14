-- `snapshots::raw::Held::mag_angle` meets its contract.
-- Assumes nothing.
use Rattle.std.proofs.Common.{arith}
use mathlib.Core.Bool.{and-false}
use borrow.Author.Tests.{le-ltb}
use Rattle.bursts.specs.Bursts.{angles_part}
use Rattle.cells.proofs.Bytes.{not_there}
use Rattle.snapshots.specs.Raw.{askable}
use Rattle.snapshots.proofs.raw.Held.mag_angle.Goals as goal

pub returns-then-number-ge-MAG_ANGLES : goal.returns-then-number-ge-MAG_ANGLES
returns-then-number-ge-MAG_ANGLES c =
    let a = c.args in
    not_there _ _ _ (rw (le-ltb a.number angles_part.size (omega arith)) (and-false (askable a.self.snapshot.now a.self.held)))
