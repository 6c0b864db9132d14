-- `reader::snapshot_part::lay_packet`: the bytes that are laid are the packet's.
use Rattle.reader.proofs.Laid.{packet_laid}
use Rattle.reader.proofs.snapshot_part.lay_packet.Goals as goal

pub returns-then-lays : goal.returns-then-lays
returns-then-lays c =
    let a = c.args in
    packet_laid a.packet.now a.second a.lays a.at a.packet.ref_ptr _ _ a.bytes.now _ c.if-lays.true (c.requires c.if-lays.true)
    c.burst_bytes.ensures c.lay.ensures
