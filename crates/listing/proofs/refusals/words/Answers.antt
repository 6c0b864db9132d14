-- `listing::refusals::words`: the words of a number stand in its row, and past the rows there are none.
use Rattle.std.proofs.Common.{ℕ, List, Bor}
use Rattle.std.proofs.Math.ListN.{get_or-map}
use Rattle.listing.specs.Text.{ascii}
use Rattle.listing.specs.Refusals.{words, words_of}
use Rattle.listing.proofs.Words.{words_past}
use Rattle.listing.proofs.refusals.words.Goals as goal

pub returns-then-number-lt15 : goal.returns-then-number-lt15
unfolding words_of
returns-then-number-lt15 c = rw (← get_or-map (λ (b : Bor (List ℕ)). b.now)) (get_or-map ascii words c.args.rule "")

pub returns-else-number-lt15 : goal.returns-else-number-lt15
returns-else-number-lt15 c = words_past c.args.rule c.if-number-lt15.false
