-- `c_reader::lpmag_finish`: where the answer isn't 0, what `finished` hands back is what was lent.
-- Assumes nothing.
use Rattle.calls.proofs.Laws.{finish_kept}
use Rattle.c_reader.proofs.lpmag_finish.Goals as goal

pub returns-else-y-eq0 : goal.returns-else-y-eq0
returns-else-y-eq0 c =
    let kept = finish_kept c.args.state.now _ _ c.args.closed.now _ c.finished-y.ensures c.if-y-eq0.false in
    rw kept.0 at c.finished-y.ensures
