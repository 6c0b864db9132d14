-- Laws of the number in n bits from bit i, over the order, the place and the width.
-- Assumes nothing.
use mathlib.Core.Path.{◌≡◌, refl, sym, ap, ◌∙◌}
use mathlib.Core.List.{List}
use Prim.Native.Nat.{ℕ, zero, suc, ◌+◌, ◌*◌, ◌/◌, ◌%◌, ◌^◌, ◌<◌}
use native.Mathlib.Nat.{add-zero, add_assoc, add-suc}
use native.Mathlib.Numerals.{add-one}
use native.Mathlib.Omega.{arith}
use mathlib.Core.Bool.{Bool}
use lib.Arith.{lt_of_le-ne, digits_div, digits_mod}
use lib.Dec.{T, eqb, eqb→eq}
use lib.ListN.{get_or}
use borrow.Author.Tests.{eqb-true, eqb-false}
use Rattle.prelude.proofs.Conds.{cases}
use Rattle.bits.specs.Numbers.{Order, least, most, bit_of, bit, join, number}
use Rattle.bits.specs.Twelve.{front, back}
use Rattle.prelude.specs.Upto.{both, upto}
use Rattle.prelude.proofs.Upto.{both_left, both_right, upto_at}
use Rattle.bits.proofs.Joins.{join_below, join_same, join_assoc, join_none}

bit_of_below : (o : Order) (x j : ℕ) → bit_of o x j < 2 ^ 1
unfolding bit_of
bit_of_below least x j = omega arith
bit_of_below most x j = omega arith

bit_below : (o : Order) (b : List ℕ) (i : ℕ) → bit o b i < 2 ^ 1
unfolding bit
bit_below o b i = bit_of_below o (get_or b (i / 8) 0) (i % 8)

-- a number of n bits is below 2 ^ n
pub below : (o : Order) (b : List ℕ) (i n : ℕ) → number o b i n < 2 ^ n
unfolding number
below o b i zero = omega arith
below o b i (suc n) = rw (← add-one n) (join_below o n 1 (number o b i n) (bit o b (i + n)) (below o b i n) (bit_below o b (i + n)))

-- a number depends on its own bits only, wherever they stand
pub own : (o : Order) (b b' : List ℕ) (i i' n : ℕ) → ((j : ℕ) → j < n → bit o b (i + j) ≡ bit o b' (i' + j)) → number o b i n ≡ number o b' i' n
unfolding number
own o b b' i i' zero h = refl
own o b b' i i' (suc n) h = rw (own o b b' i i' n (λ j k. h j (omega arith)), h n (omega arith))

-- m bits and then n bits
pub split : (o : Order) (b : List ℕ) (i m n : ℕ) → number o b i (m + n) ≡ join o m (number o b i m) n (number o b (i + m) n)
unfolding number
split o b i m zero = rw (add-zero m, join_none o m (number o b i m))
split o b i m (suc n) =
    rw (add-suc m n, split o b i m n, ← add_assoc i m n, ← add-one n)
    (join_assoc o m n 1 (number o b i m) (number o b (i + m) n) (bit o b (i + m + n)))

-- what holds of each below n, and of n, holds of each below n + 1
last_or : (P : ℕ → Type 0) (n : ℕ) → ((j : ℕ) → j < n → P j) → P n → (j : ℕ) → j < suc n → P j
last_or P n f p j h =
    cases (eqb j n)
    (λ t. rw (eqb-true j n t) p)
    (λ t. f j (lt_of_le-ne (omega arith) (eqb-false j n t)))

-- equal numbers have equal bits
pub bits : (o : Order) (b b' : List ℕ) (i i' n : ℕ) → number o b i n ≡ number o b' i' n → (j : ℕ) → j < n → bit o b (i + j) ≡ bit o b' (i' + j)
unfolding number
bits o b b' i i' zero e j h = absurd (omega arith)
bits o b b' i i' (suc n) e j h =
    let d =
    join_same o n 1 (number o b i n) (bit o b (i + n)) (number o b' i' n) (bit o b' (i' + n))
    (below o b i n) (bit_below o b (i + n)) (below o b' i' n) (bit_below o b' (i' + n)) e in
    last_or (λ j. bit o b (i + j) ≡ bit o b' (i' + j)) n (bits o b b' i i' n d.0) d.1 j h

-- a bit of the byte at place h
bit_in : (o : Order) (b : List ℕ) (h j : ℕ) → j < 8 → bit o b (8 * h + j) ≡ bit_of o (get_or b h 0) j
unfolding bit
bit_in o b h j k =
    let q : (8 * h + j) / 8 ≡ h = omega arith in
    let r : (8 * h + j) % 8 ≡ j = omega arith in
    rw (q, r)

-- the four bits from bit s of a byte, as a number
abbrev four : Order → ℕ → ℕ → ℕ
four o x s = join o 3 (join o 2 (join o 1 (join o 0 0 1 (bit_of o x s)) 1 (bit_of o x (s + 1))) 1 (bit_of o x (s + 2))) 1 (bit_of o x (s + 3))

-- front and back of a byte are its two halves; of every byte, computed
abbrev right : Order → ℕ → Bool
right o x = both (eqb (four o x 0) (front o x)) (eqb (four o x 4) (back o x))

every_byte_lem : (o : Order) → T (upto (right o) 256)
unfolding both join bit_of front back
every_byte_lem least = tt
every_byte_lem most = tt

module _ (o : Order) (x : ℕ) (h : x < 256) where
  told : T (right o x)
  told = upto_at (right o) 256 (every_byte_lem o) x h

  front_bits : four o x 0 ≡ front o x
  front_bits = eqb→eq (four o x 0) (front o x) (both_left (eqb (four o x 0) (front o x)) (eqb (four o x 4) (back o x)) told)

  back_bits : four o x 4 ≡ back o x
  back_bits = eqb→eq (four o x 4) (back o x) (both_right (eqb (four o x 0) (front o x)) (eqb (four o x 4) (back o x)) told)

halves : (o : Order) (x : ℕ) → join o 4 (front o x) 4 (back o x) ≡ x
unfolding join front back
halves least x = omega arith
halves most x = omega arith

-- the byte at place h, and its halves, as numbers
module _ (o : Order) (b : List ℕ) (h : ℕ) (byte : get_or b h 0 < 256) where
  pub number_front : number o b (8 * h) 4 ≡ front o (get_or b h 0)
  unfolding number
  number_front =
      rw (bit_in o b h 0 (omega arith), bit_in o b h 1 (omega arith), bit_in o b h 2 (omega arith), bit_in o b h 3 (omega arith))
      (front_bits o (get_or b h 0) byte)

  pub number_back : number o b (8 * h + 4) 4 ≡ back o (get_or b h 0)
  unfolding number
  number_back =
      rw (add_assoc, add_assoc (8 * h) 4 1, add_assoc (8 * h) 4 2, add_assoc (8 * h) 4 3)
      (rw (bit_in o b h 4 (omega arith), bit_in o b h 5 (omega arith), bit_in o b h 6 (omega arith), bit_in o b h 7 (omega arith))
      (back_bits o (get_or b h 0) byte))

  pub number_byte : number o b (8 * h) 8 ≡ get_or b h 0
  number_byte = split o b (8 * h) 4 4 ∙ rw (number_front, number_back) (halves o (get_or b h 0))

-- n bytes that make one number are the same
pub same_byte : (o : Order) (b b' : List ℕ) (h n : ℕ) → number o b (8 * h) (8 * n) ≡ number o b' (8 * h) (8 * n) → (j : ℕ) → j < n
    → get_or b (h + j) 0 < 256 → get_or b' (h + j) 0 < 256 → get_or b (h + j) 0 ≡ get_or b' (h + j) 0
same_byte o b b' h n e j l x y =
    sym (number_byte o b (h + j) x) ∙ own o b b' (8 * (h + j)) (8 * (h + j)) 8 same ∙ number_byte o b' (h + j) y
  where
    same : (i : ℕ) → i < 8 → bit o b (8 * (h + j) + i) ≡ bit o b' (8 * (h + j) + i)
    same i k =
        let p : 8 * h + (8 * j + i) ≡ 8 * (h + j) + i = omega arith in
        rw p at (bits o b b' (8 * h) (8 * h) (8 * n) e (8 * j + i) (omega arith))

-- a byte more
pub one_more : (o : Order) (b : List ℕ) (h n : ℕ) → get_or b (h + n) 0 < 256
    → number o b (8 * h) (8 * n + 8) ≡ join o (8 * n) (number o b (8 * h) (8 * n)) 8 (get_or b (h + n) 0)
one_more o b h n k =
    let e : 8 * h + 8 * n ≡ 8 * (h + n) = omega arith in
    split o b (8 * h) (8 * n) 8 ∙ rw (e, number_byte o b (h + n) k)

-- n bits inside a longer number, most significant first: p bits stand before them and m after
pub within : (b : List ℕ) (i p n m : ℕ) → number most b (i + p) n ≡ number most b i (p + n + m) / 2 ^ m % 2 ^ n
unfolding join
within b i p n m =
    sym
    (ap (λ (x : ℕ). x / 2 ^ m % 2 ^ n) (split most b i (p + n) m)
    ∙ ap (λ (x : ℕ). x % 2 ^ n) (digits_div (number most b i (p + n)) (below most b (i + (p + n)) m) ∙ split most b i p n)
    ∙ digits_mod (number most b i p) (below most b (i + p) n))
