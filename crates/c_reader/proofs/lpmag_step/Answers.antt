-- `c_reader::lpmag_step`: where the answer isn't 0, what `stepped` hands back is what was lent.
-- Assumes nothing.
use Rattle.calls.proofs.Laws.{step_kept}
use Rattle.c_reader.proofs.lpmag_step.Goals as goal

pub returns-else-y-eq0 : goal.returns-else-y-eq0
returns-else-y-eq0 c =
    let kept = step_kept c.args.state.now _ _ c.args.report.now c.args.r.now _ c.stepped-y.ensures c.if-y-eq0.false in
    rw kept.0 at c.stepped-y.ensures
