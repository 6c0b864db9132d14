-- Laws of marks kept as the bits of a number.
-- Assumes nothing.
use mathlib.Core.Path.{◌≡◌, refl, sym, ap, ◌∙◌}
use mathlib.Core.Bool.{Bool, true, false, true≢false}
use Prim.Native.Nat.{ℕ, zero, suc, ◌+◌, ◌-◌, ◌*◌, ◌/◌, ◌%◌, ◌^◌, ◌<◌, ◌≤◌}
use native.Mathlib.Nat.{add_comm, add-zero, add-suc, one-mul, pow-suc, div-eq_of_lt, mod-eq_of_lt, add-mul-div_right, div-lt_iff_lt-mul, lt_of_lt_of_le}
use native.Mathlib.Numerals.{add-one}
use native.Mathlib.Omega.{arith}
use lib.Count.{ones, ones_in, ones_cat}
use lib.Dec.{ltb}
use lib.Pow.{pow_mono, pow_pos, pow-lt, pow-add}
use borrow.Author.Tests.{eqb-true, eqb-false, ltb-true, ltb-false}
use Rattle.prelude.specs.Marks.{bit_set, highest, marked}

-- the mark of u as a shift of 1 makes it
pub weight : (w u : ℕ) → u < w → 1 * 2 ^ u % 2 ^ w ≡ 2 ^ u
weight w u h = ap (λ (x : ℕ). x % 2 ^ w) (one-mul (2 ^ u)) ∙ mod-eq_of_lt (pow-lt h)

-- what the highest mark says of the number
pub highest_high : (n k : ℕ) → highest n k ≡ true → n < 2 ^ (k + 1)
unfolding highest
highest_high n k e =
    let q = eqb-true (n / 2 ^ k) 1 e in
    let below = (div-lt_iff_lt-mul {x = n} {y = 2} (pow_pos k)).0 (omega arith) in
    rw (add-one k) (omega (arith, pow-suc 2 k))

-- the highest mark is set
pub highest_set : (n k : ℕ) → highest n k ≡ true → bit_set n k ≡ true
unfolding highest
highest_set n k e = rw (eqb-true (n / 2 ^ k) 1 e)

ones_one : ones 1 ≡ 1
unfolding ones ones_in
ones_one = refl

module _ (n u : ℕ) (h : n < 2 ^ u) where
  own : (n + 2 ^ u) / 2 ^ u ≡ 1
  own = ap (λ (x : ℕ). (n + x) / 2 ^ u) (sym (one-mul (2 ^ u))) ∙ add-mul-div_right n 1 (pow_pos u) ∙ ap (λ (x : ℕ). x + 1) (div-eq_of_lt h)

  pub highest_marked : highest (marked n u) u ≡ true
  unfolding highest marked
  highest_marked = rw own

  pub marked_own : bit_set (marked n u) u ≡ true
  unfolding marked
  marked_own = rw own

  pub marked_below : marked n u < 2 ^ (u + 1)
  unfolding marked
  marked_below = rw (add-one u) (omega (arith, pow-suc 2 u))

  pub ones_marked : ones (marked n u) ≡ ones n + 1
  unfolding marked
  ones_marked =
      let shifted : n + 2 ^ u ≡ 1 * 2 ^ u + n = add_comm n (2 ^ u) ∙ ap (λ (x : ℕ). x + n) (sym (one-mul (2 ^ u))) in
      ap ones shifted ∙ ones_cat u 1 n h ∙ ap (λ (x : ℕ). x + ones n) ones_one ∙ add_comm 1 (ones n)

-- marks below 2^n have no highest from n on
pub none_above : (n t held : ℕ) → held < 2 ^ n → n ≤ t → highest held t ≡ false
unfolding highest
none_above n t held h l = let e : held / 2 ^ t ≡ 0 = div-eq_of_lt (lt_of_lt_of_le h (pow_mono l)) in rw e

-- no mark from u on
pub bits_above : (n i : ℕ) → n < 2 ^ i → bit_set n i ≡ false
bits_above n i h = rw (div-eq_of_lt h)

-- a mark that is set stands below u
pub set_below : (n i u : ℕ) → n < 2 ^ u → bit_set n i ≡ true → i < u
set_below n i u h s = go (ltb i u) refl
  where
    go : (t : Bool) → ltb i u ≡ t → i < u
    go true t = ltb-true i u t
    go false t = absurd (true≢false (sym s ∙ bits_above n i (lt_of_lt_of_le h (pow_mono (ltb-false i u t)))))

-- a new mark leaves the others as they are
pub marked_other : (n u i : ℕ) → n < 2 ^ u → (i ≡ u → ⊥) → bit_set (marked n u) i ≡ bit_set n i
unfolding marked
marked_other n u i h d = go (ltb i u) refl
  where
    go : (t : Bool) → ltb i u ≡ t → bit_set (n + 2 ^ u) i ≡ bit_set n i
    go true t =
        let l = ltb-true i u t in
        let k = u - i - 1 in
        let e : suc k + i ≡ u = omega arith in
        let p : 2 ^ u ≡ 2 ^ suc k * 2 ^ i = ap (λ (x : ℕ). 2 ^ x) (sym e) ∙ pow-add 2 (suc k) i in
        let q : (n + 2 ^ u) / 2 ^ i ≡ n / 2 ^ i + 2 ^ suc k = ap (λ (x : ℕ). (n + x) / 2 ^ i) p ∙ add-mul-div_right n (2 ^ suc k) (pow_pos i) in
        let r : (n / 2 ^ i + 2 ^ suc k) % 2 ≡ n / 2 ^ i % 2 = omega (arith, pow-suc 2 k) in
        rw (q, r)
    go false t =
        let l : u + 1 ≤ i = omega (arith, ltb-false i u t) in
        let q : 2 ^ (u + 1) ≡ 2 ^ u * 2 = rw (add-one u) (pow-suc 2 u) in
        let p : 2 ^ u + 2 ^ u ≤ 2 ^ i = omega (arith, pow_mono l) in
        bits_above (n + 2 ^ u) i (omega arith) ∙ sym (bits_above n i (omega arith))

-- a number with no mark from u on is below 2^u
lower : (n u : ℕ) → n < 2 ^ suc u → bit_set n u ≡ false → n < 2 ^ u
lower n u h e =
    let two : n / 2 ^ u < 2 = (div-lt_iff_lt-mul {x = n} {y = 2} (pow_pos u)).1 (omega (arith, pow-suc 2 u)) in
    let d : n / 2 ^ u % 2 ≡ 1 → ⊥ = eqb-false (n / 2 ^ u % 2) 1 e in
    omega (arith, (div-lt_iff_lt-mul {x = n} {y = 1} (pow_pos u)).0 (omega arith))

pub below : (k u n : ℕ) → n < 2 ^ (u + k) → ((i : ℕ) → u ≤ i → i < u + k → bit_set n i ≡ false) → n < 2 ^ u
below zero u n h f = rw add-zero at h
below (suc k) u n h f = below k u n (lower n (u + k) (rw add-suc at h) (f (u + k) (omega arith) (omega arith))) (λ i a b. f i a (omega arith))

-- a mark set is some mark
pub marked_some : (n u : ℕ) → 0 < marked n u
unfolding marked
marked_some n u = omega (arith, pow_pos u)
