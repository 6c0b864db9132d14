-- Signal level and signal quality: IEEE single, finite or not (01, "The record").
-- Assumes nothing.
use Rattle.std.specs.Prelude.{ℕ, ◌/◌, ◌%◌, ◌^◌, Bool, true, cond, ◌≡◌, eqb, Float}
use Rattle.std.specs.Float.{binary32}
use Rattle.std.specs.Float.Ieee.{of_bits, to_bits}
use Rattle.std.specs.Float.Ieee.Scale.{finite}
use Rattle.record.specs.declared.signal.Level.{Level}
use Rattle.record.specs.declared.signal.Level.TheVariants.{Finite, NotFinite}

-- the 8 bits of the exponent are all set: an infinity or no number
abbrev pub not_finite : ℕ → Bool
not_finite bits = eqb (bits / 2 ^ 23 % 2 ^ 8) 255

-- "either a finite reading or marked not finite with its 32 bits"
unfoldable pub level_of : ℕ → Level
level_of bits = cond (not_finite bits) (NotFinite bits) (Finite (of_bits binary32 bits))

-- the 32 bits of each case
unfoldable pub bits_of : Level → ℕ
bits_of (Finite x) = to_bits binary32 x
bits_of (NotFinite b) = b

-- one level for the 32 bits, which it keeps (minus zero stays minus zero); a finite reading is finite
pub record LevelIs (bits : ℕ) (l : Level) : Type 0 where
  pub is : l ≡ level_of bits
  pub kept : bits_of l ≡ bits
  pub reading : (x : Float) → l ≡ Finite x → finite x ≡ true
