-- The 32 bits of a level: kept by reading and writing them, and those of no number.
-- Assumes nothing.
use mathlib.Core.Path.{◌≡◌, refl, subst}
use mathlib.Core.Bool.{Bool, true, false, not}
use Prim.Native.Nat.{ℕ, zero, suc, ◌+◌, ◌*◌, ◌/◌, ◌%◌, ◌<◌}
use native.Mathlib.Omega.{arith}
use borrow.Author.Tests.{eq-eqb, ne_eqb}
use lib.Dec.{T, leb}
use lib.Ieee.{Float, nan, inf, fin, up, down, level, eq, odd, hid, top, of_fields, binary32, of_bits, to_bits, nan_bits, is_nan}
use lib.Ieee.Scale.{finite}
use Rattle.record.specs.declared.signal.Level.TheVariants.{Finite, NotFinite}
use lib.Ieee.Bits.{to_bits-of_bits, nan_bits_is}

-- a float is equal to itself exactly when it is a number
pub equal_number : (x : Float) → eq x x ≡ true → T (not (is_nan x))
unfolding eq is_nan
equal_number nan e = let n : ◌≡◌ {A = ℕ} 0 1 = cc in absurd (omega arith)
equal_number (inf s) e = tt
equal_number (fin s m e) h = tt

same_size : (s : Bool) (n : ℕ) → level s n s n ≡ true
same_size true n = rw (eq-eqb n n refl)
same_size false n = rw (eq-eqb n n refl)

pub unequal_bits : (x : Float) → eq x x ≡ false → 2143289344 ≡ to_bits binary32 x
unfolding eq to_bits
unequal_bits nan e = refl
unequal_bits (inf true) e = let n : ◌≡◌ {A = ℕ} 0 1 = cc in absurd (omega arith)
unequal_bits (inf false) e = let n : ◌≡◌ {A = ℕ} 0 1 = cc in absurd (omega arith)
unequal_bits (fin s m e) h = let n : ◌≡◌ {A = ℕ} 0 1 = cc (same_size s (m * up e * down e)) in absurd (omega arith)

odd_finite : (d : ℕ) (s : Bool) (q k l : ℕ) → finite (odd d s q k l) ≡ true
unfolding odd
odd_finite d s zero k l = refl
odd_finite d s (suc q) k l = refl

fields_finite : (s : Bool) (x t : ℕ) → (x ≡ 255 → ⊥) → finite (of_fields binary32 s x t) ≡ true
unfolding of_fields
fields_finite s zero t h = odd_finite 24 s t 0 149
fields_finite s (suc x) t h = rw (ne_eqb (suc x) 255 h) (odd_finite 24 s (8388608 + t) x 149)

module _ (b : ℕ) where
  finite_bits : (b / 8388608 % 256 ≡ 255 → ⊥) → finite (of_bits binary32 b) ≡ true
  unfolding of_bits
  finite_bits h = fields_finite (leb (top binary32) b) (b % top binary32 / hid binary32) (b % hid binary32) (λ e. h (omega arith))

  pub reads_finite : (b / 8388608 % 256 ≡ 255 → ⊥) → (x : Float) → Finite (of_bits binary32 b) ≡ Finite x → finite x ≡ true
  reads_finite h x e = let k : of_bits binary32 b ≡ x = cc in subst (λ (v : Float). finite v ≡ true) k (finite_bits h)

  pub reads_none : (x : Float) → NotFinite b ≡ Finite x → finite x ≡ true
  reads_none x e = let n : ◌≡◌ {A = ℕ} 0 1 = cc in absurd (omega arith)

  pub not_nan : (b / 8388608 % 256 ≡ 255 → ⊥) → T (not (nan_bits binary32 b))
  unfolding nan_bits
  not_nan h = rw (ne_eqb (b % 2147483648 / 8388608) 255 (λ e. h (omega arith))) tt

  pub kept_bits : b < 4294967296 → (b / 8388608 % 256 ≡ 255 → ⊥) → to_bits binary32 (of_bits binary32 b) ≡ b
  kept_bits l h = to_bits-of_bits binary32 b l (subst (λ (t : Bool). T (not t)) (nan_bits_is binary32 b) (not_nan h))

-- what a level is, once its bits are read
pub ruleset level_read = (not_nan, kept_bits, reads_finite, reads_none)
