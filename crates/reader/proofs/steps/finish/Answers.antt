-- `reader::steps::finish`: what closes is copied into a buffer of its own size, and nothing is laid.
use Rattle.reader.specs.Lent.{held}
use Rattle.reader.proofs.Outcomes.{samples_end, cells_end, snapshot_end, all_closed, finish_is}
use Rattle.reader.proofs.steps.finish.Goals as goal

pub close-requires : goal.close-requires
close-requires c = let a = c.args in samples_end a.state (held a.lent.now) _ c.is_sized.ensures _ c.end-ended.ensures

pub close-requires-2 : goal.close-requires-2
close-requires-2 c = let a = c.args in cells_end a.state (held a.lent.now) _ c.is_sized.ensures _ c.end-ended.ensures

pub close-requires-3 : goal.close-requires-3
close-requires-3 c = let a = c.args in snapshot_end a.state (held a.lent.now) _ c.is_sized.ensures _ c.end-ended.ensures

pub returns-clause-is : goal.returns-clause-is
returns-clause-is c =
    let a = c.args in
    let done =
    all_closed a.state (held a.lent.now) _ c.is_sized.ensures _ c.end-ended.ensures _ _ _ _ _ _ c.close.ensures
    c.close-2.ensures c.close-3.ensures
    in
    finish_is a.state (held a.lent.now) _ c.is_sized.ensures _ c.end-ended.ensures _ done
