-- 01, "Sixteen examples to be proved": one table, and what a row of it says of the definitions. Proved of every row by `sixteen`
-- in proofs/Examples.antt.
-- Assumes nothing.
use Rattle.std.specs.Prelude.{◌≡◌, Bool, true, false, List, [], ◌∷◌, ℕ, ℤ, pos, negsuc}
use Rattle.std.specs.Float.Ieee.Exact.{HasValue}
use Rattle.bits.specs.Numbers.{Order, least, most, twelve}
use Rattle.mag.specs.Samples.{signed}
use Rattle.mag.specs.Field.{has_field, field_of}
use Rattle.counts.specs.Codes.{range_of}
use Rattle.counts.specs.declared.codes.Divided.TheVariants.{By1}
use Rattle.angles.specs.Angles.{has_bin, angle_at}
use Rattle.accumulation.specs.Accumulation.{is_open, gap, joins}
use Rattle.accumulation.specs.declared.Accumulation.{Accumulation}

pub data Example : Type 0 where
  -- a code, and the lowest and highest count that it may stand for
  counts : ℕ → ℕ → ℕ → Example
  -- bytes, in an order of the bits, and their first two samples
  samples : Order → List ℕ → ℤ → ℤ → Example
  -- a sample, a range, and the field in nT: is it negative, and its size as a fraction
  field : ℤ → ℕ → Bool → ℕ → ℕ → Example
  -- the last type and its count, no others since; a type and its count; the gap, and does it join
  frame : ℕ → ℕ → ℕ → ℕ → ℕ → Bool → Example
  -- anode, phase and angle
  angle : ℕ → ℕ → ℕ → Example

unfoldable pub Holds : Example → Type 0
Holds (counts c low high) = ((range_of c By1).low ≡ low) × ((range_of c By1).high ≡ high)
Holds (samples o b x y) = (signed (twelve o b 0) ≡ x) × (signed (twelve o b 1) ≡ y)
Holds (field z r minus n d) = (has_field z r ≡ true) × HasValue (field_of z r) minus n d
Holds (frame t c u d g j) =
    (a : Accumulation) → is_open a ≡ true → a.last_type ≡ t → a.last_count ≡ c → a.others ≡ 0 → (gap a d ≡ g) × (joins a u d ≡ j)
Holds (angle a p b) = (has_bin a p ≡ true) × (angle_at a p ≡ b)

-- the sixteen, and two more: 01's two rows of bytes are in the most-significant-first order as printed, and below each stands the
-- one with the same answers in the packet's own order (000, section 2.2)
unfoldable pub table : List Example
table =
    counts 0 0 0
    ∷ counts 15 15 15
    ∷ counts 16 16 16
    ∷ counts 31 31 31
    ∷ counts 32 32 33
    ∷ counts 255 507904 524287
    ∷ samples most (0x80 ∷ 0x07 ∷ 0xFF ∷ []) (pos 0) (negsuc 0)
    ∷ samples least (0x00 ∷ 0xF8 ∷ 0x7F ∷ []) (pos 0) (negsuc 0)
    ∷ samples most (0x00 ∷ 0x0F ∷ 0xFF ∷ []) (negsuc 2047) (pos 2047)
    ∷ samples least (0x00 ∷ 0xF0 ∷ 0xFF ∷ []) (negsuc 2047) (pos 2047)
    ∷ field (negsuc 2047) 7 true 65536 1
    ∷ field (pos 1) 0 false 1 512
    ∷ frame 5 100 6 101 0 true
    ∷ frame 5 100 6 136 35 true
    ∷ frame 5 100 6 137 36 false
    ∷ frame 5 100 8 101 0 false
    ∷ angle 7 3 42
    ∷ angle 7 4 43
    ∷ []
