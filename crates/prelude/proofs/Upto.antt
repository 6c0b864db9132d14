-- A rule at every number below n, proved by one test that is computed; a test that passes somewhere below n, or nowhere.
-- Assumes nothing.
use mathlib.Core.Path.{◌≡◌, refl, sym, subst}
use mathlib.Core.Bool.{Bool, true, false, ◌||◌, or-true}
use Prim.Native.Nat.{ℕ, zero, suc, ◌<◌}
use native.Mathlib.Omega.{arith}
use native.Mathlib.Nat.{not-suc-le-zero}
use native.Mathlib.Decide.{dec_lt}
use lib.Dec.{T}
use Rattle.prelude.specs.Upto.{both, upto, somewhere}

pub both_left : (a b : Bool) → T (both a b) → T a
unfolding both
both_left true b t = tt
both_left false b t = t

pub both_right : (a b : Bool) → T (both a b) → T b
unfolding both
both_right true b t = t
both_right false b t = absurd t

step : (f : ℕ → Bool) (n k : ℕ) → k < suc n → T (f n) → (k < n → T (f k)) → Dec (k < n) → T (f k)
step f n k h t r (yes l) = r l
step f n k h t r (no l) = let e : n ≡ k = omega arith in subst (λ (m : ℕ). T (f m)) e t

pub upto_at : (f : ℕ → Bool) (n : ℕ) → T (upto f n) → (k : ℕ) → k < n → T (f k)
upto_at f zero t k h = absurd (not-suc-le-zero h)
upto_at f (suc n) t k h = step f n k h (both_left (f n) (upto f n) t) (λ l. upto_at f n (both_right (f n) (upto f n) t) k l) (dec_lt k n)

-- a test that passes at each number below n
pub upto_all : (f : ℕ → Bool) (n : ℕ) → ((k : ℕ) → k < n → f k ≡ true) → upto f n ≡ true
unfolding both
upto_all f zero h = refl
upto_all f (suc n) h = rw (h n (omega arith), upto_all f n (λ k l. h k (omega arith)))

pub is_true : (b : Bool) → T b → b ≡ true
is_true true t = refl
is_true false t = absurd t

pub upto_true : (f : ℕ → Bool) (n : ℕ) → upto f n ≡ true → (k : ℕ) → k < n → f k ≡ true
upto_true f n e k h = is_true (f k) (upto_at f n (subst T (sym e) tt) k h)

-- a test that passes at a number below n passes somewhere
pub somewhere_at : (f : ℕ → Bool) (n k : ℕ) → k < n → f k ≡ true → somewhere f n ≡ true
unfolding somewhere
somewhere_at f zero k h e = absurd (not-suc-le-zero h)
somewhere_at f (suc n) k h e = go (dec_lt k n) (somewhere_at f n k)
  where
    go : Dec (k < n) → (k < n → f k ≡ true → somewhere f n ≡ true) → (f n || somewhere f n) ≡ true
    go (yes l) more = rw (more l e) (or-true (f n))
    go (no l) more = let p : k ≡ n = omega arith in rw (subst (λ (m : ℕ). f m ≡ true) p e)

-- a test that passes at none passes nowhere
pub nowhere : (f : ℕ → Bool) (n : ℕ) → ((k : ℕ) → k < n → f k ≡ false) → somewhere f n ≡ false
unfolding somewhere
nowhere f zero h = refl
nowhere f (suc n) h = rw (h n (omega arith), nowhere f n (λ k l. h k (omega arith)))
