-- `reader::steps::step`: what is decided is done to each pair of buffers, and to the snapshot's three.
use Rattle.reader.specs.Lent.{held}
use Rattle.reader.proofs.Outcomes.{all_worked, of_whole, step_ready, step_is}
use Rattle.reader.proofs.steps.step.Goals as goal

pub work_samples-requires : goal.work_samples-requires
work_samples-requires c =
    let a = c.args in
    (step_ready a.state (held a.lent.now) _ _ c.is_sized.ensures _ c.decide-decided.ensures _ _ _ c.packet_in-packet.ensures).samples

pub work_cells-requires : goal.work_cells-requires
work_cells-requires c =
    let a = c.args in
    (step_ready a.state (held a.lent.now) _ _ c.is_sized.ensures _ c.decide-decided.ensures _ _ _ c.packet_in-packet.ensures).cells

pub work_snapshot-requires : goal.work_snapshot-requires
work_snapshot-requires c =
    let a = c.args in
    (step_ready a.state (held a.lent.now) _ _ c.is_sized.ensures _ c.decide-decided.ensures _ _ _ c.packet_in-packet.ensures).snapshot

pub returns-clause-is : goal.returns-clause-is
returns-clause-is c =
    let a = c.args in
    let done =
    all_worked c.decide-decided.result.works c.packet_in-packet.result.now (held a.lent.now) _ _ _ _ _ _ _ c.work_samples.ensures
    c.work_cells.ensures c.work_snapshot.ensures
    in
    of_whole a.state (held a.lent.now) a.r.now
    (step_is a.state (held a.lent.now) _ _ c.is_sized.ensures _ c.decide-decided.ensures _ _ _ c.packet_in-packet.ensures _ done)
