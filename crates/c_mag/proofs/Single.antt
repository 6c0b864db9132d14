-- One answer, and one content of what was lent: any two outcomes that a promise allows are equal. (lpmag_range promises an
-- equation: `one` of prelude is its law.)
-- Assumes nothing.
use mathlib.Core.Path.{◌≡◌}
use mathlib.Core.List.{List}
use Prim.Native.Nat.{ℕ}
use lib.Ieee.{Float}
use lib.IntN.{ℤ}
use Rattle.prelude.proofs.Single.{one}
use Rattle.c_mag.specs.Magnetometer.{SamplesGiven, FieldGiven}

pub one_samples : (m : List ℕ) (room : List ℤ) (k n : ℕ) (a b : List ℤ)
    → SamplesGiven m room k a → SamplesGiven m room n b → (k ≡ n) × (a ≡ b)
one_samples m room k n a b x y = (one x.number y.number, one x.written y.written)

pub one_field : (z : ℤ) (r : ℕ) (old : Float) (k n : ℕ) (a b : Float)
    → FieldGiven z r old k a → FieldGiven z r old n b → (k ≡ n) × (a ≡ b)
one_field z r old k n a b x y = (one x.number y.number, one x.written y.written)
