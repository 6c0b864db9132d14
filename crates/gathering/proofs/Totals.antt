-- Numbers summed: over places that are moved about, over rows of places, over the marks of a number, and over what is handed out.
-- Assumes nothing.
use mathlib.Core.Path.{◌≡◌, refl, sym, ap, ◌∙◌}
use mathlib.Core.Bool.{Bool, true, false, cond, true≢false}
use mathlib.Core.List.{List, [], ◌∷◌, ◌++◌}
use Prim.Native.Nat.{ℕ, zero, suc, ◌+◌, ◌-◌, ◌*◌, ◌/◌, ◌^◌, ◌<◌, ◌≤◌}
use native.Mathlib.Nat.{add-zero, add-suc, zero-mul, mul-zero, suc-mul, mul-add, mul-add-div_right, div-eq_of_lt}
use native.Mathlib.Numerals.{add-one}
use native.Mathlib.Omega.{arith}
use lib.Count.{ones, ones_in}
use lib.Dec.{eqb, ltb}
use borrow.Author.Tests.{eq-eqb, ne_eqb, eqb-true, eqb-false, ltb-true, ltb-false}
use Rattle.prelude.proofs.Conds.{cases}
use Rattle.prelude.specs.Marks.{bit_set, marked}
use Rattle.prelude.proofs.Marks.{bits_above, marked_other, ones_marked, below}
use Rattle.gathering.specs.Lists.{Pairwise, flat, sum, total}

pub total_same : (f g : ℕ → ℕ) (n : ℕ) → ((i : ℕ) → i < n → f i ≡ g i) → total f n ≡ total g n
unfolding total
total_same f g zero h = refl
total_same f g (suc n) h = rw (total_same f g n (λ i l. h i (omega arith)), h n (omega arith))

pub total_none : (f : ℕ → ℕ) (n : ℕ) → ((i : ℕ) → i < n → f i ≡ 0) → total f n ≡ 0
unfolding total
total_none f zero h = refl
total_none f (suc n) h = omega (arith, total_none f n (λ i l. h i (omega arith)), h n (omega arith))

pub total_add : (f g : ℕ → ℕ) (n : ℕ) → total f n + total g n ≡ total (λ i. f i + g i) n
unfolding total
total_add f g zero = refl
total_add f g (suc n) = omega (arith, total_add f g n)

-- summed by rows or by columns
swap : (f : ℕ → ℕ → ℕ) (n m : ℕ) → total (λ q. total (f q) m) n ≡ total (λ p. total (λ q. f q p) n) m
unfolding total
swap f zero m = sym (total_none (λ p. 0) m (λ i l. refl))
swap f (suc n) m = cc (swap f n m, total_add (λ p. total (λ q. f q p) n) (f n) m)

-- one term alone
pub only : (k x n : ℕ) → k < n → total (λ i. cond (eqb i k) x 0) n ≡ x
unfolding total
only k x zero h = absurd (omega arith)
only k x (suc n) h = go (eqb n k) refl (only k x n)
  where
    go : (t : Bool) → eqb n k ≡ t → (k < n → total (λ i. cond (eqb i k) x 0) n ≡ x) → total (λ i. cond (eqb i k) x 0) n + cond t x 0 ≡ x
    go true e ih =
        let m = eqb-true n k e in
        omega (arith, total_none (λ i. cond (eqb i k) x 0) n (λ i l. rw (ne_eqb i k (λ q. omega arith))))
    go false e ih = let m = eqb-false n k e in omega (arith, ih (omega arith))

pub total_more : (f : ℕ → ℕ) (n j : ℕ) → total f (n + j) ≡ total f n + total (λ i. f (n + i)) j
unfolding total
total_more f n zero = rw (add-zero n) (omega arith)
total_more f n (suc j) = rw add-suc (omega (arith, total_more f n j))

pub total_suc : (f : ℕ → ℕ) (n : ℕ) → total f (suc n) ≡ total f n + f n
unfolding total
total_suc f n = refl

total_zero : (f : ℕ → ℕ) → total f 0 ≡ 0
unfolding total
total_zero f = refl

-- places that go there and back, each to one of its own
module _ (n : ℕ) (to back : ℕ → ℕ) (to_below : (q : ℕ) → q < n → to q < n) (back_below : (p : ℕ) → p < n → back p < n)
    (there : (q : ℕ) → q < n → back (to q) ≡ q) (again : (p : ℕ) → p < n → to (back p) ≡ p) (g : ℕ → ℕ) where
  same_place : (p q : ℕ) → p < n → q < n → eqb p (to q) ≡ eqb q (back p)
  same_place p q h l =
      cases (eqb q (back p))
      (λ e. rw e (eq-eqb p (to q) (sym (again p h) ∙ ap to (sym (eqb-true q (back p) e)))))
      (λ e. rw e (ne_eqb p (to q) (λ i. eqb-false q (back p) e (sym (there q l) ∙ ap back (sym i)))))

  -- g of place p where q goes there
  abbrev share : ℕ → ℕ → ℕ
  share p q = cond (eqb p (to q)) (g p) 0

  pub total_moved : total g n ≡ total (λ q. g (to q)) n
  total_moved = cc (
    total_same (λ p. total (share p) n) g n of_place,
    swap (λ q p. share p q) n n,
    total_same (λ q. total (λ p. share p q) n) (λ q. g (to q)) n of_other,
  )
    where
      of_place : (p : ℕ) → p < n → total (share p) n ≡ g p
      of_place p h =
          total_same (share p) (λ q. cond (eqb q (back p)) (g p) 0) n (λ q l. rw same_place)
          ∙ only (back p) (g p) n (back_below p h)

      same : (p q : ℕ) → share p q ≡ cond (eqb p (to q)) (g (to q)) 0
      same p q = cases (eqb p (to q)) (λ e. rw e (ap g (eqb-true p (to q) e))) (λ e. rw e)

      of_other : (q : ℕ) → q < n → total (λ p. share p q) n ≡ g (to q)
      of_other q h = total_same (λ p. share p q) (λ p. cond (eqb p (to q)) (g (to q)) 0) n (λ p l. same p q) ∙ only (to q) (g (to q)) n (to_below q h)

-- rows of s places
module _ (s : ℕ) (h : 0 < s) where
  all_alike : (x n : ℕ) → total (λ i. x) n ≡ n * x
  unfolding total
  all_alike x zero = omega arith
  all_alike x (suc n) = omega (arith, all_alike x n)

  one_row : (f : ℕ → ℕ) (m : ℕ) → total (λ i. f ((m * s + i) / s)) s ≡ s * f m
  one_row f m = total_same (λ i. f ((m * s + i) / s)) (λ i. f m) s (λ i l. ap f (row i l)) ∙ all_alike (f m) s
    where
      row : (i : ℕ) → i < s → (m * s + i) / s ≡ m
      row i l = cc (mul-add-div_right h m i, div-eq_of_lt l, add-zero m)

  by_rows : (f : ℕ → ℕ) (m : ℕ) → total (λ q. f (q / s)) (m * s) ≡ s * total f m
  by_rows f zero = ap (total (λ q. f (q / s))) (zero-mul s) ∙ total_zero (λ q. f (q / s)) ∙ sym (ap (λ x. s * x) (total_zero f) ∙ mul-zero s)
  by_rows f (suc m) =
      ap (total (λ q. f (q / s))) (suc-mul m s)
      ∙ total_more (λ q. f (q / s)) (m * s) s
      ∙ ap (λ x. x + total (λ i. f ((m * s + i) / s)) s) (by_rows f m)
      ∙ ap (λ x. s * total f m + x) (one_row f m)
      ∙ sym (ap (λ x. s * x) (total_suc f m) ∙ mul-add s (total f m) (f m))

-- the marks of a number, one by one
abbrev pub mark_at : ℕ → ℕ → ℕ
mark_at n u = cond (bit_set n u) 1 0

above : (n w : ℕ) → bit_set n w ≡ true → 2 ^ w ≤ n
above n w e =
    cases (ltb n (2 ^ w))
    (λ l. absurd (true≢false (sym e ∙ bits_above n w (ltb-true n (2 ^ w) l))))
    (λ l. ltb-false n (2 ^ w) l)

as_mark : (n w : ℕ) → 2 ^ w ≤ n → n ≡ marked (n - 2 ^ w) w
unfolding marked
as_mark n w l = omega arith

by_marks : (w n : ℕ) → n < 2 ^ w → total (mark_at n) w ≡ ones n
unfolding total
by_marks zero n h = let z : n ≡ 0 = omega arith in rw z (unfold ones ones_in in refl)
by_marks (suc w) n h = go (bit_set n w) refl (λ m l. by_marks w m l)
  where
    go : (t : Bool) → bit_set n w ≡ t → ((m : ℕ) → m < 2 ^ w → total (mark_at m) w ≡ ones m) → total (mark_at n) w + cond (bit_set n w) 1 0 ≡ ones n
    go false e ih =
        let free : (i : ℕ) → w ≤ i → i < w + 1 → bit_set n i ≡ false = λ i a b. let k : w ≡ i = omega arith in rw k at e in
        rw e (omega (arith, ih n (below 1 w n (rw (add-one w) h) free)))
    go true e ih =
        let m = n - 2 ^ w in
        let up = above n w e in
        let small : m < 2 ^ w = omega arith in
        let is = as_mark n w up in
        let other : (i : ℕ) → i < w → bit_set n i ≡ bit_set m i =
        λ i l. ap (λ (x : ℕ). bit_set x i) is ∙ marked_other m w i small (λ z. omega arith) in
        let same = total_same (mark_at n) (mark_at m) w (λ i l. ap (λ (b : Bool). cond b 1 0) (other i l)) in
        rw e (omega (arith, ap ones is ∙ ones_marked m w small, ih m small))

-- the places of the keys that are marked: a row for each
pub rows_marked : (s : ℕ) → 0 < s → (w n : ℕ) → n < 2 ^ w → total (λ q. mark_at n (q / s)) (w * s) ≡ s * ones n
rows_marked s h w n l = by_rows s h (mark_at n) w ∙ rw by_marks

-- what is told of each that is handed out, summed: w counts the items in a list
module _ {I O : Type 0} (P : List I → O → Type 0) (f : O → ℕ) (w : List I → ℕ)
    (none : w [] ≡ 0) (more : (g h : List I) → w (g ++ h) ≡ w g + w h) (is : (g : List I) (o : O) → P g o → f o ≡ w g) where
  pub sum_is : (gs : List (List I)) (os : List O) → Pairwise P gs os → sum f os ≡ w (flat gs)
  unfolding Pairwise flat sum
  sum_is [] [] h = sym none
  sum_is [] (o ∷ os) h = absurd h
  sum_is (g ∷ gs) [] h = absurd h
  sum_is (g ∷ gs) (o ∷ os) h = omega (arith, is g o h.0, sum_is gs os h.1, more g (flat gs))
