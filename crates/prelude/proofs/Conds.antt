-- Laws of tests: a function of one of two values, either answer of a test, both of two tests, one of two, a test that a callee made.
-- Assumes nothing.
use mathlib.Core.Path.{◌≡◌, refl, sym, ◌∙◌}
use mathlib.Core.Bool.{Bool, true, false, cond, not, ◌&&◌, ◌||◌, false≢true}
use borrow.Author.Tests.{not-true, not-false}

pub cond_of {ℓ ℓ'} : {A : Type ℓ} {B : Type ℓ'} (f : A → B) (t : Bool) (a b : A) → f (cond t a b) ≡ cond t (f a) (f b)
cond_of f true a b = refl
cond_of f false a b = refl

pub two : (a b : Bool) → (a && b) ≡ true → (a ≡ true) × (b ≡ true)
two true b e = (refl, e)
two false b e = absurd (false≢true e)

-- what follows from either answer of a test
pub cases {ℓ} : {P : Type ℓ} (t : Bool) → (t ≡ true → P) → (t ≡ false → P) → P
cases true y n = y refl
cases false y n = n refl

-- one of two, the first of which doesn't hold
pub second : (a b : Bool) → a ≡ false → (a || b) ≡ true → b ≡ true
second false b h e = e
second true b h e = absurd (false≢true (sym h))

-- a callee's test, turned round
pub held : {b t : Bool} → b ≡ t → not b ≡ false → t ≡ true
held {b} e h = sym e ∙ not-false b h

pub fails : {b t : Bool} → b ≡ t → not b ≡ true → t ≡ false
fails {b} e h = sym e ∙ not-true b h
