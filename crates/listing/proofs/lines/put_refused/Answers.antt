-- `listing::lines::put_refused`: a text after another.
use Rattle.std.proofs.Common.{refl, arith}
use Rattle.std.proofs.lemmas.Grind.{common_steps}
use Rattle.buffers.proofs.Patches.{has_room_lem}
use Rattle.listing.specs.Lines.{refused_line}
use Rattle.listing.proofs.Puts.{page_then, is_written}
use Rattle.listing.proofs.lines.put_refused.Goals as goal

pub returns : goal.returns
unfolding refused_line
returns c =
    is_written 29 (has_room_lem c.args.out.now c.args.at 29 _ c.if-not-has_room.ensures refl)
    (page_then c.text.ensures (page_then c.number.ensures c.text-2.ensures))
    (grind (arith, common_steps))
