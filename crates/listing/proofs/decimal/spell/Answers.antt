-- `listing::decimal::spell`: no digit is found before the loop.
use Rattle.listing.proofs.Digits.{found_none}
use Rattle.listing.proofs.decimal.spell.Goals as goal

pub loop-i-init : goal.loop-i-init
loop-i-init c = found_none c.args.n c.args.places.now c.requires
