-- `listing::lines::put_header`: the text is the header's.
use Rattle.std.proofs.Common.{refl, arith}
use Rattle.std.proofs.lemmas.Grind.{common_steps}
use Rattle.buffers.proofs.Patches.{has_room_lem}
use Rattle.listing.proofs.Puts.{is_written}
use Rattle.listing.specs.Lines.{header}
use Rattle.listing.proofs.lines.put_header.Goals as goal

pub returns : goal.returns
unfolding header
returns c =
    is_written 24 (has_room_lem c.args.out.now c.args.at 24 _ c.if-not-has_room.ensures refl) c.text.ensures (grind (arith, common_steps))
