-- `state::deciding::range_in`: a record of its size has MAG bytes of theirs, and so a range.
-- Assumes nothing.
use Rattle.std.proofs.Common.{◌∙◌}
use Rattle.state.proofs.Decisions.{mag_is, range_told}
use Rattle.state.proofs.deciding.range_in.Goals as goal

pub returns : goal.returns
returns c =
    let r = c.args.r in
    let e = mag_is r.now _ _ c.requires r.ref_ptr _ _ c.packet_in.ensures c.mag_bytes.ensures in
    c.unwrap_or.ensures ∙ range_told r.now _ c.requires e c.range_of.result c.range_of.ensures
