-- `listing::text::Page::number`: the digits stand after the space.
use Rattle.listing.proofs.Puts.{page_then}
use Rattle.listing.proofs.text.Page.number.Goals as goal

pub returns : goal.returns
returns c = page_then c.text.ensures c.decimal.ensures
