-- `listing::text::Page::line`: a text after another.
use Rattle.listing.specs.Lines.{line_of}
use Rattle.listing.proofs.Puts.{page_then}
use Rattle.listing.proofs.text.Page.line.Goals as goal

pub returns : goal.returns
unfolding line_of
returns c =
    page_then c.text.ensures
    (page_then c.number.ensures (page_then c.number-2.ensures (page_then c.number-3.ensures c.text-2.ensures)))
