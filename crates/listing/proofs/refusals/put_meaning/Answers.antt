-- `listing::refusals::put_meaning`: the words, and a byte after them.
use Rattle.std.proofs.Common.{refl, arith}
use Rattle.std.proofs.lemmas.Grind.{common_steps}
use Rattle.buffers.proofs.Patches.{has_room_lem}
use Rattle.listing.specs.Refusals.{meaning_text}
use Rattle.listing.proofs.Puts.{page_then, is_written}
use Rattle.listing.proofs.refusals.put_meaning.Goals as goal

pub returns : goal.returns
unfolding meaning_text
returns c =
    is_written 80 (has_room_lem c.args.out.now c.args.at 80 _ c.if-not-has_room.ensures refl)
    (page_then c.words.ensures c.text.ensures)
    (grind (arith, common_steps))
