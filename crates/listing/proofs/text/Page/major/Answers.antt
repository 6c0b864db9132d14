-- `listing::text::Page::major`: nothing is put where the first would leave 64 bits; else the line is.
use Rattle.std.proofs.Common.{arith}
use Rattle.listing.proofs.Puts.{page_none}
use Rattle.listing.proofs.Closings.{major_far, major_near}
use Rattle.listing.proofs.text.Page.major.Goals as goal

pub returns-in-Some : goal.returns-in-Some
returns-in-Some c = rw (c.in-Some.is, ← major_near c.in-Some.frame c.if-frame-lt-NUMBERS.true) c.line.ensures

pub returns-else-frame-lt-NUMBERS : goal.returns-else-frame-lt-NUMBERS
returns-else-frame-lt-NUMBERS c =
    rw (c.in-Some.is, ← major_far c.in-Some.frame c.if-frame-lt-NUMBERS.false) (page_none c.args.self.now (omega arith))
