-- Decimal digits: how they are found from the last on, how many they are, and that they stand for their number.
-- Assumes nothing.
use mathlib.Core.Path.{◌≡◌, refl, sym, ap, ◌∙◌}
use mathlib.Core.Bool.{Bool, true, false}
use mathlib.Core.List.{List, [], ◌∷◌, ◌++◌, append_assoc, append-nil}
use Prim.Native.Nat.{ℕ, zero, suc, ◌+◌, ◌-◌, ◌*◌, ◌/◌, ◌%◌, ◌^◌, ◌<◌, ◌≤◌}
use native.Mathlib.Omega.{arith}
use lib.Dec.{ltb}
use lib.ListN.{length, set, take, drop, length-append, length-set, length-drop, drop_of_length-le}
use lib.Seq.{take_all, drop_at, length-take-le, set_split}
use borrow.Author.Tests.{lt-ltb, le-ltb}
use Rattle.listing.specs.Decimal.{digit, digits, decimal_in, decimal, value_after, value}
use Rattle.listing.specs.Inner.Putting.{Spelled}
use Rattle.prelude.proofs.Conds.{cases}

-- a byte stored before what stands from the next place on
drop_set : (l : List ℕ) (i v : ℕ) → i < length l → drop i (set l i v) ≡ v ∷ drop (suc i) l
drop_set l i v h = cc (set_split l i v h, drop_at (take i l) (v ∷ drop (suc i) l) i (length-take-le i l (omega arith)))

-- all digits, those still to be found before those that stand from place k on
abbrev pub Found : ℕ → List ℕ → ℕ → ℕ → Type 0
Found n places k rest = (decimal n ≡ decimal_in k rest ++ drop k places) × (length places ≡ digits)

pub found_none : (n : ℕ) (places : List ℕ) → length places ≡ digits → Found n places digits n
unfolding decimal
found_none n places h =
    let e = drop_of_length-le places {i = digits} (omega arith) in
    (sym (ap (λ x. decimal_in digits n ++ x) e ∙ append-nil (decimal_in digits n)), h)

-- the digit before them
module _ (n : ℕ) (places : List ℕ) (i rest : ℕ) (f : Found n places (suc i) rest) (h : i < digits) where
  abbrev v : ℕ
  v = digit (rest % 10)

  -- what is left of a number from 10 on is still to be found
  pub found_more : (rest / 10 ≡ 0 → ⊥) → Found n (set places i v) i (rest / 10)
  found_more z =
      let e : decimal_in (suc i) rest ≡ decimal_in i (rest / 10) ++ (v ∷ []) = rw (le-ltb rest 10 (omega arith)) in (
        f.0
            ∙ ap (λ x. x ++ drop (suc i) places) e
            ∙ append_assoc (decimal_in i (rest / 10)) (v ∷ []) (drop (suc i) places)
            ∙ ap (λ x. decimal_in i (rest / 10) ++ x) (sym (drop_set places i v (omega (arith, f.1)))),
        length-set places i v ∙ f.1,
      )

  -- nothing is left of one below 10
  pub found_all : rest / 10 ≡ 0 → Spelled n (set places i v) i
  found_all z =
      let l : rest % 10 ≡ rest = omega arith in
      let e : decimal_in (suc i) rest ≡ v ∷ [] = rw (lt-ltb rest 10 (omega arith), l) in
      record {
        text = drop_set places i v (omega (arith, f.1)) ∙ sym (f.0 ∙ rw e);
        size = length-set places i v ∙ f.1;
        begins = h;
      }

-- all places have one
pub found_full : (n : ℕ) (places : List ℕ) (rest : ℕ) → Found n places 0 rest → Spelled n places 0
found_full n places rest f = record { text = sym f.0; size = f.1; begins = omega arith }

-- the part of the places that has them
pub spelled_part : (n : ℕ) (places : List ℕ) (i : ℕ) → Spelled n places i → take (20 - i) (drop i places) ≡ decimal n
spelled_part n places i s = take_all (20 - i) (drop i places) (simp length-drop (omega arith)) ∙ s.text

length_in : (k n : ℕ) → length (decimal_in k n) ≤ k
length_in zero n = omega arith
length_in (suc k) n = go (ltb n 10) refl (length_in k (n / 10))
  where
    go : (b : Bool) → ltb n 10 ≡ b → length (decimal_in k (n / 10)) ≤ k → length (decimal_in (suc k) n) ≤ suc k
    go true e h = rw e (omega arith)
    go false e h = rw e (simp length-append (omega arith))

-- "no line too long for its buffer, whatever the counts"
pub length_decimal : (n : ℕ) → length (decimal n) ≤ digits
unfolding decimal
length_decimal n = length_in digits n

value_last : (m : ℕ) (ds : List ℕ) (d : ℕ) → value_after m (ds ++ (d ∷ [])) ≡ 10 * value_after m ds + (d - 48)
value_last m [] d = refl
value_last m (x ∷ ds) d = value_last (10 * m + (x - 48)) ds d

value_in : (k n : ℕ) → n < 10 ^ k → value (decimal_in k n) ≡ n
value_in zero n h = omega arith
value_in (suc k) n h =
    cases (ltb n 10)
    (λ e. rw e (omega arith))
    (λ e.
    let s : n / 10 < 10 ^ k = omega arith in
    rw e (value_last 0 (decimal_in k (n / 10)) (digit (n % 10)) ∙ omega (arith, (value_in k (n / 10)) s)))

-- the digits of a 64-bit number stand for it
pub decimal_value : (n : ℕ) → n < 2 ^ 64 → value (decimal n) ≡ n
unfolding decimal
decimal_value n h = value_in digits n (omega arith)
