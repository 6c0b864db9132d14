-- The counts that weren't accepted between two kept records are those that were lost.
-- Assumes nothing.
use mathlib.Core.Path.{◌≡◌, refl, sym, ap, subst, ◌∙◌}
use mathlib.Core.Bool.{Bool, true, false, cond, or-true}
use mathlib.Core.List.{List, [], ◌∷◌}
use mathlib.Core.Logic.{inl, inr}
use Prim.Native.Nat.{ℕ, zero, suc, ◌+◌, ◌-◌, ◌<◌, ◌≤◌}
use native.Mathlib.Numerals.{add-one}
use native.Mathlib.Omega.{arith}
use lib.Dec.{eqb}
use borrow.Author.Tests.{eq-eqb, ne_eqb, eqb-true}
use Rattle.prelude.proofs.Conds.{cases}
use Rattle.gathering.specs.Lists.{Some, Neighbours, total}
use Rattle.gathering.specs.Laying.{Rising}
use Rattle.gathering.proofs.Those.{rising_those}
use Rattle.gathering.proofs.Members.{In, above, those_in, neighbours_in, neighbours_rise}
use Rattle.gathering.proofs.Totals.{total_same, total_none, total_add, total_more, total_suc, only}
use Rattle.stream.specs.Sending.{next_real, Kept, is_real, reals}
use Rattle.stream.specs.Cutting.{at, has_count, unaccepted, lost_between}
use Rattle.stream.proofs.Chains.{Chain, rising_counts}

-- whether one of the kept records has the count i, as a number, and how many have one below n
abbrev kept_at : List Kept → ℕ → ℕ
kept_at ks i = cond (has_count ks i) 1 0

abbrev kept_below : List Kept → ℕ → ℕ
kept_below ks n = total (kept_at ks) n

-- no kept record has a count below them all
none_there : (ks : List Kept) (low n : ℕ) → Rising at low ks → n < low → has_count ks n ≡ false
unfolding has_count Rising
none_there [] low n r h = refl
none_there (x ∷ ks) low n r h = rw (ne_eqb n (at x) (λ e. omega arith), none_there ks (at x + 1) n r.1 (omega arith))

none_below : (ks : List Kept) (low n : ℕ) → Rising at low ks → n ≤ low → kept_below ks n ≡ 0
none_below ks low n r h = total_none (kept_at ks) n (λ i l. rw (none_there ks low i r (omega arith)))

-- the first of them adds one
first_adds : (x : Kept) (ks : List Kept) (n : ℕ) → Rising at (at x + 1) ks → at x < n → kept_below (x ∷ ks) n ≡ 1 + kept_below ks n
unfolding has_count
first_adds x ks n r h =
    total_same (kept_at (x ∷ ks)) (λ i. cond (eqb i (at x)) 1 0 + kept_at ks i) n (λ i l. each i)
    ∙ sym (total_add (λ i. cond (eqb i (at x)) 1 0) (kept_at ks) n)
    ∙ rw (only (at x) 1 n h)
  where
    each : (i : ℕ) → kept_at (x ∷ ks) i ≡ cond (eqb i (at x)) 1 0 + kept_at ks i
    each i =
        cases (eqb i (at x))
        (λ e. rw e (let m = eqb-true i (at x) e in rw (none_there ks (at x + 1) i r (omega arith))))
        (λ e. rw e (omega arith))

there : (ks : List Kept) (p : Kept) → In p ks → has_count ks (at p) ≡ true
unfolding has_count Some
there [] p i = absurd i
there (x ∷ ks) p (inl e) = rw (eq-eqb (at p) (at x) (rw (sym e)))
there (x ∷ ks) p (inr i) = rw (there ks p i) (or-true (eqb (at p) (at x)))

-- a kept record's count: as many as were kept and lost before it
count_is : (ks : List Kept) (c k l : ℕ) → Chain c k l ks → (x : Kept) → In x ks → at x + l ≡ c + kept_below ks (at x) + x.lost
unfolding Chain Some Rising
count_is [] c k l h x i = absurd i
count_is (y ∷ ks) c k l h x (inl e) =
    let rises : Rising at (at y) (y ∷ ks) = (omega arith, rising_counts ks (at y + 1) (next_real y.serial y.bytes) y.lost h.1) in
    let none = none_below (y ∷ ks) (at y) (at y) rises (omega arith) in
    subst (λ (z : Kept). at z + l ≡ c + kept_below (y ∷ ks) (at z) + z.lost) e (omega arith)
count_is (y ∷ ks) c k l h x (inr i) =
    let n = next_real y.serial y.bytes in
    let r = rising_counts ks (at y + 1) n y.lost h.1 in
    let one = first_adds y ks (at x) r (omega (arith, above at ks (at y + 1) x r i)) in
    omega (arith, count_is ks (at y + 1) n y.lost h.1 x i)

all_ones : (b : ℕ → Bool) (n : ℕ) → total (λ i. cond (b i) 0 1) n + total (λ i. cond (b i) 1 0) n ≡ n
unfolding total
all_ones b zero = refl
all_ones b (suc n) = omega (arith, all_ones b n, one (b n))
  where
    one : (t : Bool) → cond t 0 1 + cond t 1 0 ≡ 1
    one true = refl
    one false = refl

module _ (ks : List Kept) (c k l : ℕ) (h : Chain c k l ks) (p f : Kept) (i : In p ks) (j : In f ks) (up : at p < at f) where
  pub unaccepted_lost : unaccepted ks (at p) (at f) ≡ lost_between p f
  unaccepted_lost =
      let m = at f - (at p + 1) in
      let e : at p + 1 + m ≡ at f = omega arith in
      let a =
      ap (kept_below ks) (sym e) ∙ total_more (kept_at ks) (at p + 1) m in
      let b =
      ap (kept_below ks) (add-one (at p))
      ∙ total_suc (kept_at ks) (at p)
      ∙ ap (λ (t : Bool). kept_below ks (at p) + cond t 1 0) (there ks p i) in
      omega (arith, a, b, count_is ks c k l h p i, count_is ks c k l h f j, all_ones (λ n. has_count ks (at p + 1 + n)) m)

-- neighbouring real-time records
pub real_lost : (ks : List Kept) (c k l : ℕ) → Chain c k l ks → (p f : Kept) → Neighbours p f (reals ks) → unaccepted ks (at p) (at f) ≡ lost_between p f
real_lost ks c k l h p f n =
    let i = neighbours_in (reals ks) p f n in
    let r = rising_those is_real at ks c (rising_counts ks c k l h) in
    unaccepted_lost ks c k l h p f
    (those_in is_real ks p i.0).0 (those_in is_real ks f i.1).0 (neighbours_rise at (reals ks) c p f r n)
