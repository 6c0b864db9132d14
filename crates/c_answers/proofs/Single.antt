-- One answer, and one content of what was lent: any two outcomes that a promise allows are equal.
-- Assumes nothing.
use mathlib.Core.Bool.{Bool, cond}
use mathlib.Core.Path.{◌≡◌, ap, ◌∙◌}
use mathlib.Core.List.{List}
use Prim.Native.Nat.{ℕ}
use lib.Dec.{eqb}
use Rattle.prelude.proofs.Single.{one}
use Rattle.counts.specs.declared.Range.{Range}
use Rattle.c_answers.specs.Answers.{Given, ValueGiven, RangeGiven}

-- what is written where the number is 0
pub where_zero : (value room : List ℕ) (k n : ℕ) → k ≡ n → cond (eqb k 0) value room ≡ cond (eqb n 0) value room
where_zero value room k n e = ap (λ (m : ℕ). cond (eqb m 0) value room) e

pub one_given : (size : ℕ) (value r room : List ℕ) (m n : ℕ) (a b : List ℕ)
    → Given size value r room m a → Given size value r room n b → (m ≡ n) × (a ≡ b)
one_given size value r room m n a b x y =
    let e = one x.number y.number in
    (e, one (x.written ∙ where_zero value room m n e) y.written)

pub one_value {ℓ} : {A : Type ℓ} (place held : Bool) (v old : A) (k n : ℕ) (a b : A)
    → ValueGiven place held v old k a → ValueGiven place held v old n b → (k ≡ n) × (a ≡ b)
one_value place held v old k n a b x y = (one x.number y.number, one x.written y.written)

-- the questions about electrons, count ranges and sums
pub one_range : (t : Bool) (other : ℕ) (r : Range) (low high k n l m h i : ℕ)
    → RangeGiven t other r low high k l h → RangeGiven t other r low high n m i → (k ≡ n) × (l ≡ m) × (h ≡ i)
one_range t other r low high k n l m h i x y =
    (one x.number y.number, one x.low_written y.low_written, one x.high_written y.high_written)
