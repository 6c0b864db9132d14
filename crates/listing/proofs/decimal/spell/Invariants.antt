-- `listing::decimal::spell`: the digits from place i on are found, and those of the rest are still to be.
use Rattle.listing.proofs.Digits.{Found}
use Rattle.listing.proofs.decimal.spell.Given as goal

abbrev pub invariant-loop-i : goal.invariant-loop-i
invariant-loop-i l = Found l.n l.places l.i l.rest
