-- `listing::text::Page::place`: a text after another.
use Rattle.listing.specs.Refusals.{record_place}
use Rattle.listing.proofs.Puts.{page_then}
use Rattle.listing.proofs.text.Page.place.Goals as goal

pub returns : goal.returns
unfolding record_place
returns c =
    page_then c.text.ensures (page_then c.number.ensures (page_then c.text-2.ensures c.number-2.ensures))
