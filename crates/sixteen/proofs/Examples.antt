-- The sixteen examples, by computation.
-- Assumes nothing.
use mathlib.Core.Path.{◌≡◌, refl}
use mathlib.Core.Bool.{true, ◌&&◌}
use Prim.Native.Nat.{ℕ, ◌-◌}
use lib.Dec.{ltb, leb}
use lib.Ieee.{round}
use Rattle.prelude.specs.Every.{Every}
use Rattle.bits.specs.Numbers.{bit_of, bit, join, number}
use Rattle.mag.specs.Field.{has_field, field_of}
use Rattle.counts.specs.Codes.{code_low, code_high, divisor, range_of}
use Rattle.angles.specs.Angles.{lines, angle_at}
use Rattle.accumulation.specs.Accumulation.{is_open, fewest, most, gap, joins}
use Rattle.accumulation.specs.declared.Accumulation.{Accumulation}
use Rattle.sixteen.specs.Examples.{Holds, table}

-- an open accumulation joins by its last frame alone
after : (t c u d : ℕ) (a : Accumulation) → is_open a ≡ true → a.last_type ≡ t → a.last_count ≡ c → a.others ≡ 0
    → (gap a d ≡ d - c - 1 - 0) × (joins a u d ≡ (ltb t u && (leb (fewest t u) (d - c - 1 - 0) && leb (d - c - 1 - 0) (most t u))))
unfolding joins
after t c u d a o e f g = rw (o, e, f, g) (refl, refl)

-- a row, and the rows after it
infixr 4 ◌then◌
◌then◌ : {A B : Type 0} → A → B → A × B
row then rows = (row, rows)

pub sixteen : Every Holds table
unfolding Every Holds table range_of divisor code_low code_high number join bit bit_of has_field field_of round angle_at lines
sixteen =
    (refl, refl)
    then (refl, refl)
    then (refl, refl)
    then (refl, refl)
    then (refl, refl)
    then (refl, refl)
    then (refl, refl)
    then (refl, refl)
    then (refl, refl)
    then (refl, refl)
    then (refl, (refl, refl))
    then (refl, (refl, refl))
    then after 5 100 6 101
    then after 5 100 6 136
    then after 5 100 6 137
    then after 5 100 8 101
    then (refl, refl)
    then (refl, refl)
    then tt
