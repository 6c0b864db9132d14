-- The law of 12-bit numbers, for either order.
-- Assumes nothing.
use mathlib.Core.Path.{◌≡◌, refl, sym, ◌∙◌}
use mathlib.Core.Bool.{Bool, true, false, cond}
use mathlib.Core.List.{List}
use Prim.Native.Nat.{ℕ, zero, suc, ◌+◌, ◌*◌, ◌/◌, ◌%◌, ◌<◌}
use native.Mathlib.Nat.{add-zero, mul_comm}
use native.Mathlib.Omega.{arith}
use lib.Dec.{eqb, leb}
use lib.ListN.{length, get_or}
use borrow.Author.Tests.{eqb-true, eqb-false, le-leb}
use Rattle.prelude.proofs.Conds.{cases}
use Rattle.bits.specs.Numbers.{Order, least, most, join, number, twelve, twelve_in}
use Rattle.bits.specs.Twelve.{Bytes, front, back, from_bytes, TwelveLaw}
use Rattle.bits.specs.Inner.Parts.{PartsOf}
use Rattle.bits.proofs.Numbers.{below, own, split, number_front, number_back, number_byte, same_byte}

module _ (o : Order) (b : List ℕ) (h : ℕ) where
  pub even : get_or b (3 * h) 0 < 256 → get_or b (3 * h + 1) 0 < 256
      → number o b (24 * h) 12 ≡ join o 8 (get_or b (3 * h) 0) 4 (front o (get_or b (3 * h + 1) 0))
  even x y =
      let e : 24 * h ≡ 8 * (3 * h) = omega arith in
      let f : 8 * (3 * h) + 8 ≡ 8 * (3 * h + 1) = omega arith in
      rw e (split o b (8 * (3 * h)) 8 4 ∙ rw (f, number_byte o b (3 * h) x, number_front o b (3 * h + 1) y))

  pub odd : get_or b (3 * h + 1) 0 < 256 → get_or b (3 * h + 2) 0 < 256
      → number o b (24 * h + 12) 12 ≡ join o 4 (back o (get_or b (3 * h + 1) 0)) 8 (get_or b (3 * h + 2) 0)
  odd y z =
      let e : 24 * h + 12 ≡ 8 * (3 * h + 1) + 4 = omega arith in
      let f : 8 * (3 * h + 1) + 4 + 4 ≡ 8 * (3 * h + 2) = omega arith in
      rw e (split o b (8 * (3 * h + 1) + 4) 4 8 ∙ rw (f, number_back o b (3 * h + 1) y, number_byte o b (3 * h + 2) z))

-- what the number at place k is
pub is : (o : Order) (b : List ℕ) (k : ℕ) → Bytes b → twelve o b k ≡ from_bytes o b k
unfolding from_bytes
is o b k bytes =
    cases (eqb (k % 2) 0)
    (λ t. let e : 12 * k ≡ 24 * (k / 2) = omega (arith, eqb-true (k % 2) 0 t) in rw (e, t, mul_comm (k / 2) 3) (even o b (k / 2) (bytes _) (bytes _)))
    (λ t. let e : 12 * k ≡ 24 * (k / 2) + 12 = omega (arith, eqb-false (k % 2) 0 t) in rw (e, t, mul_comm (k / 2) 3) (odd o b (k / 2) (bytes _) (bytes _)))

-- two numbers as one
pair_of : (o : Order) (b : List ℕ) (h : ℕ) → number o b (8 * (3 * h)) 24 ≡ join o 12 (twelve o b (2 * h)) 12 (twelve o b (2 * h + 1))
pair_of o b h =
    let e : 8 * (3 * h) ≡ 12 * (2 * h) = omega arith in
    let f : 12 * (2 * h) + 12 ≡ 12 * (2 * h + 1) = omega arith in
    rw e (split o b (12 * (2 * h)) 12 12 ∙ rw f)

-- two numbers determine their three bytes
pub three : (o : Order) (b b' : List ℕ) (h : ℕ) → Bytes b → Bytes b'
    → twelve o b (2 * h) ≡ twelve o b' (2 * h) → twelve o b (2 * h + 1) ≡ twelve o b' (2 * h + 1)
    → (j : ℕ) → j < 3 → get_or b (3 * h + j) 0 ≡ get_or b' (3 * h + j) 0
three o b b' h bytes bytes' p q j l =
    let e : number o b (8 * (3 * h)) 24 ≡ number o b' (8 * (3 * h)) 24 = pair_of o b h ∙ rw (p, q) (sym (pair_of o b' h)) in
    same_byte o b b' (3 * h) 3 e j l (bytes (3 * h + j)) (bytes' (3 * h + j))

pub law : TwelveLaw
law o b k bytes = record {
  is = is o b k bytes;
  small = below o b (12 * k) 12;
  own = λ b' h. own o b b' (12 * k) (12 * k) 12 h;
  inside = λ h. rw (le-leb (12 * k + 12) (8 * length b) h);
  three = λ b' bytes' p q. three o b b' k bytes bytes' p q;
}

nothing_even : (o : Order) → join o 8 0 4 (front o 0) ≡ 0
unfolding join front
nothing_even least = refl
nothing_even most = refl

nothing_odd : (o : Order) → join o 4 (back o 0) 8 0 ≡ 0
unfolding join back
nothing_odd least = refl
nothing_odd most = refl

-- The number from its two bytes.
pub from_parts : (o : Order) (b : List ℕ) (k w s : ℕ) → Bytes b → PartsOf b k w s
    → cond (eqb (k % 2) 0) (join o 8 w 4 (front o s)) (join o 4 (back o s) 8 w) ≡ twelve_in o b k
unfolding from_bytes
from_parts o b k w s bytes p = go (leb (12 * k + 12) (8 * length b)) (eqb (k % 2) 0) refl refl
  where
    go : (t e : Bool) → leb (12 * k + 12) (8 * length b) ≡ t → eqb (k % 2) 0 ≡ e
        → cond (eqb (k % 2) 0) (join o 8 w 4 (front o s)) (join o 4 (back o s) 8 w) ≡ twelve_in o b k
    go true true t e = rw (p.whole_is, p.shared_is, t, (law o b k bytes).is, e, eqb-true (k % 2) 0 e, add-zero (k / 2 * 3))
    go true false t e = let one : k % 2 ≡ 1 = omega (arith, eqb-false (k % 2) 0 e) in rw (p.whole_is, p.shared_is, t, (law o b k bytes).is, e, one)
    go false true t e = rw (p.whole_is, p.shared_is, t, e) (nothing_even o)
    go false false t e = rw (p.whole_is, p.shared_is, t, e) (nothing_odd o)

-- the number from its two bytes, as the code computes it at each order
module _ (b : List ℕ) (k w s : ℕ) (bytes : Bytes b) (p : PartsOf b k w s) where
  pub at_least : cond (eqb (k % 2) 0) (s % 16 * 256 + w) (w * 16 + s / 16) ≡ twelve_in least b k
  unfolding join front back
  at_least = from_parts least b k w s bytes p

  pub at_most : cond (eqb (k % 2) 1) (s % 16 * 256 + w) (w * 16 + s / 16) ≡ twelve_in most b k
  unfolding join front back
  at_most = swapped (k % 2) (omega arith) ∙ from_parts most b k w s bytes p
    where
      swapped : (m : ℕ) → m < 2 → cond (eqb m 1) (s % 16 * 256 + w) (w * 16 + s / 16) ≡ cond (eqb m 0) (w * 16 + s / 16) (s % 16 * 256 + w)
      swapped zero h = refl
      swapped (suc zero) h = refl
      swapped (suc (suc m)) h = absurd (omega arith)
