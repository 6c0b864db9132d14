-- `record::frame::kind_of`: bytes that are no packet are undefined, and a packet's codes are among its kind's.
-- Assumes nothing.
use Rattle.record.proofs.Types.{kind_off, kind_sized}
use Rattle.record.proofs.frame.kind_of.Goals as goal

pub returns-then-packet-ne-PACKET_SIZE : goal.returns-then-packet-ne-PACKET_SIZE
returns-then-packet-ne-PACKET_SIZE c = kind_off c.args.packet.now c.if-packet-ne-PACKET_SIZE.true

pub returns : goal.returns
returns c = kind_sized c.args.packet.now c.if-packet-ne-PACKET_SIZE.false c.kind_of_codes.result c.kind_of_codes.ensures
