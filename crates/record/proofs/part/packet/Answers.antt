-- `record::part::packet`: of a record that passes, its bytes 286 to 453.
-- Assumes nothing.
use Rattle.record.proofs.Opened.{with_packet, without_packet}
use Rattle.record.proofs.part.packet.Goals as goal

pub returns-in-Ok : goal.returns-in-Ok
returns-in-Ok c =
    let r = c.args.r in
    with_packet r.now c.check.result c.check.ensures r.ref_ptr _ _ c.in-Ok.is c.packet_in.ensures

pub returns-in-Err : goal.returns-in-Err
returns-in-Err c = without_packet c.args.r.now c.check.result c.check.ensures _ c.in-Err.is c.args.r.ref_ptr
