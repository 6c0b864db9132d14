-- `c_counts::lpmag_count_range`: each divisor is its own.
-- Assumes nothing.
use Rattle.c_counts.proofs.Ranges.{range_given, none_given}
use Rattle.c_counts.proofs.lpmag_count_range.Goals as goal

pub returns-in-Ok : goal.returns-in-Ok
returns-in-Ok c =
    let a = c.args in
    range_given a.code a.divided_by c.in-Ok.divided c.range_of.result a.low.now a.high.now _ _ _ c.in-Ok.ensures c.range_of.ensures c.give.ensures

pub returns-in-Err : goal.returns-in-Err
returns-in-Err c =
    let a = c.args in
    none_given a.code a.divided_by a.low.now a.high.now c.in-Err.ensures
