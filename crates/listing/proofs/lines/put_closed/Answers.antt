-- `listing::lines::put_closed`: a line after another.
use Rattle.std.proofs.Common.{refl, arith}
use Rattle.std.proofs.lemmas.Grind.{common_steps}
use Rattle.buffers.proofs.Patches.{has_room_lem}
use Rattle.listing.specs.Lines.{closed_size}
use Rattle.listing.proofs.Closings.{closed_put}
use Rattle.listing.proofs.Puts.{is_written}
use Rattle.listing.proofs.lines.put_closed.Goals as goal

pub returns : goal.returns
returns c =
    is_written closed_size (has_room_lem c.args.out.now c.args.at closed_size _ c.if-not-has_room.ensures refl)
    (closed_put c.args.closed c.major.ensures c.accumulation.ensures c.snapshot.ensures c.snapshot-2.ensures)
    (grind (arith, common_steps))
