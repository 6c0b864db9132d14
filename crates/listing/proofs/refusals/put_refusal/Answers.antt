-- `listing::refusals::put_refusal`: a text after another.
use Rattle.std.proofs.Common.{refl, arith}
use Rattle.std.proofs.lemmas.Grind.{common_steps}
use Rattle.buffers.proofs.Patches.{has_room_lem}
use Rattle.listing.specs.Refusals.{refusal_line}
use Rattle.listing.proofs.Puts.{page_then, is_written}
use Rattle.listing.proofs.refusals.put_refusal.Goals as goal

pub returns : goal.returns
unfolding refusal_line
returns c =
    is_written 161 (has_room_lem c.args.out.now c.args.at 161 _ c.if-not-has_room.ensures refl)
    (page_then c.place.ensures
    (page_then c.text.ensures (page_then c.number.ensures (page_then c.text-2.ensures (page_then c.words.ensures c.text-3.ensures)))))
    (grind (arith, common_steps))
