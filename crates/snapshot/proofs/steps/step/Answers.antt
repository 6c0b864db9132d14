-- `snapshot::steps::step`: where it passes by or a mark is out of place, and where it takes both packets.
-- Assumes nothing.
use Rattle.std.proofs.Common.{arith, rules}
use Rattle.std.proofs.lemmas.Grind.{common_steps}
use Rattle.snapshot.specs.Place.{stepped_at}
use Rattle.snapshot.specs.Snapshot.{step_snapshot}
use Rattle.snapshot.specs.Soundness.{packets_among}
use Rattle.snapshot.proofs.Facts.{quiet_leaves}
use Rattle.snapshot.proofs.steps.step.Goals as goal

pub returns-then-passes_by : goal.returns-then-passes_by
unfolding stepped_at packets_among
returns-then-passes_by c = search (rules, quiet_leaves)

pub returns : goal.returns
unfolding stepped_at packets_among step_snapshot
returns c = grind (arith, common_steps)
