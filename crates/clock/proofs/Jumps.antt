-- The jumps, by computation.
-- Assumes nothing.
use mathlib.Core.Path.{refl}
use Rattle.prelude.specs.Every.{Every}
use Rattle.clock.specs.Clock.{later, turn_at, turn_fits, count_of, arrival_at}
use Rattle.clock.specs.Jumps.{Jumps, jump_table}

pub all_jumps : Every Jumps jump_table
unfolding Every Jumps jump_table arrival_at later turn_fits turn_at count_of
all_jumps =
    (refl, (refl, (refl, (refl, (refl, (refl, (refl, (refl, (refl, (refl, (refl, (refl, (refl, (refl, (refl, (refl, (refl, tt)))))))))))))))))
