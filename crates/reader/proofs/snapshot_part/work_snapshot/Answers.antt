-- `reader::snapshot_part::work_snapshot`: where neither packet has anything to do, all stays.
use Rattle.std.proofs.Common.{sym, ◌∙◌}
use Rattle.reader.proofs.Laid.{idle_worked}
use Rattle.reader.proofs.snapshot_part.work_snapshot.Goals as goal

pub returns-else-is_busy-2 : goal.returns-else-is_busy-2
returns-else-is_busy-2 c =
    idle_worked c.args.one c.args.two _ _ _ _ (sym c.is_busy.ensures ∙ c.if-is_busy.false)
    (sym c.is_busy-else-is_busy.ensures ∙ c.if-is_busy-2.false)
