-- Where the parts of a whole stand, and a room that is filled part after part.
-- Assumes nothing.
use mathlib.Core.Bool.{true}
use mathlib.Core.List.{List, [], ◌∷◌, ◌++◌, append_assoc, append-nil}
use mathlib.Core.Option.{Option, none, some}
use mathlib.Core.Path.{◌≡◌, refl, sym, ap, subst, ◌∙◌}
use Prim.Native.Nat.{ℕ, zero, suc, ◌+◌, ◌*◌, ◌<◌, ◌≤◌}
use native.Mathlib.Nat.{add_comm, add-zero, zero-mul, suc-mul}
use native.Mathlib.Numerals.{add-one}
use native.Mathlib.Omega.{arith}
use lib.Dec.{eqb}
use lib.ListN.{length, get_or, take, drop, length-drop}
use lib.Seq.{take_at, drop_at, drop-drop, take-add, take-take, length-take-le}
use borrow.Author.Tests.{eq-eqb}
use Rattle.prelude.specs.Build.{build}
use Rattle.prelude.specs.Every.{Every}
use Rattle.prelude.proofs.Built.{length_build}
use Rattle.prelude.proofs.Every.{every_joined}
use Rattle.buffers.specs.Laying.{patch}
use Rattle.buffers.proofs.Patches.{length_patch, patch_none, patch_then}
use Rattle.formats.specs.Part.{Part, PartLaw, read_at}
use Rattle.formats.specs.Wholes.{of_both, pair, ◌then◌, write_all, read_all, ◌times◌, by_twos, one_by_one, ThenAt, TimesAt, TwosAt}
use Rattle.formats.proofs.Laws.{all_sized, twos_same}

-- a room keeps its length
pub length_written : {A : Type 0} {p : Part A} → PartLaw p → (room : List ℕ) (at : ℕ) (v : A) → p.Holds v → at + p.size ≤ length room
    → length (patch room at (p.write v)) ≡ length room
length_written {p = p} P room at v h k = length_patch room at (p.write v) (omega (arith, P.sized v h))

-- what follows the first m of m + n places
cut : (x : List ℕ) (m n : ℕ) → m ≤ length x → drop m (take (m + n) x) ≡ take n (drop m x)
cut x m n h = cc (take-add m n x, drop_at (take m x) (take n (drop m x)) m (length-take-le m x h))

-- a whole read by its parts
module _ {A B : Type 0} (p : Part A) (q : Part B) (b : List ℕ) (at : ℕ) (h : at + (p then q).size ≤ length b) where
  then_told : read_at (p then q) b at ≡ of_both pair (read_at p b at) (read_at q b (at + p.size))
  then_told =
      let x = drop at b in
      let l = length-drop at b in
      rw (take-take p.size (p.size + q.size) x (omega arith), cut x p.size q.size (omega arith), drop-drop)

  pub then_read : (x : A) (y : B) → read_at p b at ≡ some x → read_at q b (at + p.size) ≡ some y → read_at (p then q) b at ≡ some (x, y)
  then_read x y d e =
      then_told
      ∙ ap (λ r. of_both pair r (read_at q b (at + p.size))) d
      ∙ rw e

pub then_at : {A B : Type 0} {p : Part A} (q : Part B) → PartLaw p → ThenAt p q
then_at {A = A} {B = B} {p = p} q P = record {
  first = λ v h. take_at (p.write v.0) (q.write v.1) p.size (P.sized v.0 h.0);
  second = λ v h. drop_at (p.write v.0) (q.write v.1) p.size (P.sized v.0 h.0);
  filled = λ room at v h k.
      let l = P.sized v.0 h.0 in
      let s = p.write v.0 in
      ap (λ n. patch (patch room at s) (at + n) (q.write v.1)) (sym l) ∙ patch_then room at s (q.write v.1) (omega arith);
  told = λ b at h. then_told p q b at h;
}

module _ {A : Type 0} {p : Part A} (P : PartLaw p) where
  element : (xs : List A) → Every p.Holds xs → (k : ℕ) (z : A) → k < length xs
      → take p.size (drop (k * p.size) (write_all p xs)) ≡ p.write (get_or xs k z)
  unfolding write_all Every
  element [] h k z l = absurd (omega arith)
  element (x ∷ xs) h zero z l = rw zero-mul (take_at (p.write x) (write_all p xs) p.size (P.sized x h.0))
  element (x ∷ xs) h (suc k) z l =
      let s = p.size in
      let e = suc-mul k s ∙ add_comm (k * s) s in
      let w = p.write x ++ write_all p xs in
      rw (e, ← drop-drop, drop_at (p.write x) (write_all p xs) s (P.sized x h.0)) (element xs h.1 k z (omega arith))

  write_append : (xs ys : List A) → write_all p (xs ++ ys) ≡ write_all p xs ++ write_all p ys
  unfolding write_all
  write_append [] ys = refl
  write_append (x ∷ xs) ys = rw (write_append xs ys) (sym (append_assoc (p.write x) (write_all p xs) (write_all p ys)))

  write_more : (f : ℕ → A) (k : ℕ) → write_all p (build f (k + 1)) ≡ write_all p (build f k) ++ p.write (f k)
  unfolding build write_all
  write_more f k = rw (add-one k) (write_append (build f k) (f k ∷ []) ∙ rw append-nil)

  every_build : (f : ℕ → A) (k : ℕ) → ((j : ℕ) → j < k → p.Holds (f j)) → Every p.Holds (build f k)
  unfolding build Every
  every_build f zero h = tt
  every_build f (suc k) h = every_joined p.Holds (build f k) (f k ∷ []) (every_build f k (λ j l. h j (omega arith))) (h k (omega arith), tt)

  more : (room : List ℕ) (at k : ℕ) (f : ℕ → A) → ((j : ℕ) → j < k → p.Holds (f j)) → at + k * p.size ≤ length room
      → patch (patch room at (write_all p (build f k))) (at + k * p.size) (p.write (f k)) ≡ patch room at (write_all p (build f (k + 1)))
  more room at k f h l =
      let s = write_all p (build f k) in
      let e = all_sized P (build f k) (every_build f k h) ∙ ap (λ n. n * p.size) (length_build f k) in
      rw write_more (ap (λ n. patch (patch room at s) (at + n) (p.write (f k))) (sym e) ∙ patch_then room at s (p.write (f k)) (omega arith))

  build_first : (f : ℕ → A) (n : ℕ) → f 0 ∷ build (λ k. f (suc k)) n ≡ build f (suc n)
  unfolding build
  build_first f zero = refl
  build_first f (suc n) = ap (λ x. x ++ (f (suc n) ∷ [])) (build_first f n)

  -- one element, and n after it
  first_told : (n : ℕ) (b : List ℕ) (at : ℕ) → at + suc n * p.size ≤ length b
      → read_all p (suc n) (take (suc n * p.size) (drop at b))
      ≡ of_both ◌∷◌ (read_at p b at) (read_all p n (take (n * p.size) (drop (at + p.size) b)))
  unfolding read_all
  first_told n b at l =
      let s = p.size in
      let x = drop at b in
      let e = suc-mul n s ∙ add_comm (n * s) s in
      let i = length-drop at b in
      rw (e, take-take s (s + n * s) x (omega arith), cut x s (n * s) (omega arith), drop-drop)

  next : (at k : ℕ) → at + p.size + k * p.size ≡ at + suc k * p.size
  next at k = omega arith

  told : (n : ℕ) (b : List ℕ) (at : ℕ) (f : ℕ → A) → at + n * p.size ≤ length b → ((k : ℕ) → k < n → read_at p b (at + k * p.size) ≡ some (f k))
      → read_all p n (take (n * p.size) (drop at b)) ≡ some (build f n)
  unfolding read_all build
  told zero b at f l h = refl
  told (suc n) b at f l h =
      let s = p.size in
      let e = suc-mul n s in
      let one = rw (zero-mul s, add-zero at) at (h 0 (omega arith)) in
      let step : (k : ℕ) → k < n → read_at p b (at + s + k * s) ≡ some (f (suc k)) =
      λ k j. ap (λ m. read_at p b m) (next at k) ∙ h (suc k) (omega arith) in
      let rest = told n b (at + s) (λ k. f (suc k)) (omega arith) step in
      first_told n b at l ∙ rw (one, rest) (ap some (build_first f n))

  none_last : (x : Option A) → of_both {B = List A} ◌∷◌ x none ≡ none
  none_last none = refl
  none_last (some a) = refl

  refused : (n : ℕ) (b : List ℕ) (at k : ℕ) → at + n * p.size ≤ length b → k < n → read_at p b (at + k * p.size) ≡ none
      → read_all p n (take (n * p.size) (drop at b)) ≡ none
  refused zero b at k l h e = absurd (omega arith)
  refused (suc n) b at zero l h e =
      let one = rw (zero-mul, add-zero at) at e in
      first_told n b at l ∙ rw one
  refused (suc n) b at (suc k) l h e =
      let s = p.size in
      let i = suc-mul n s in
      let rest = refused n b (at + s) k (omega arith) (omega arith) (ap (λ m. read_at p b m) (next at k) ∙ e) in
      first_told n b at l ∙ rw rest (none_last (read_at p b at))

  pub times_at : TimesAt p
  unfolding write_all
  times_at = record {
    element = λ n xs h k z l. element xs h.1 k z (omega arith);
    empty = patch_none;
    more = more;
    told = λ b at n f h k. told n b at f h k;
    refused = λ b at n k h l e. refused n b at k h l e;
  }

-- singles, and the pairs that they are
module _ {A : Type 0} (f : ℕ → A) where
  abbrev pair_at : ℕ → A × A
  pair_at j = (f (2 * j), f (2 * j + 1))

  ones_append : (us vs : List (A × A)) → one_by_one (us ++ vs) ≡ one_by_one us ++ one_by_one vs
  unfolding one_by_one
  ones_append [] vs = refl
  ones_append (u ∷ us) vs = rw (ones_append us vs)

  ones_build : (n : ℕ) → one_by_one (build pair_at n) ≡ build f (2 * n)
  unfolding build one_by_one
  ones_build zero = refl
  ones_build (suc n) =
      let e : 2 * suc n ≡ suc (suc (2 * n)) = omega arith in
      rw e
      (ones_append (build pair_at n) (pair_at n ∷ [])
      ∙ ap (λ xs. xs ++ (f (2 * n) ∷ (f (2 * n + 1) ∷ []))) (ones_build n)
      ∙ rw add-one (sym (append_assoc (build f (2 * n)) (f (2 * n) ∷ []) (f (suc (2 * n)) ∷ []))))

  twos_build : (n : ℕ) → build pair_at n ≡ by_twos (build f (2 * n))
  twos_build n = cc (twos_same (build pair_at n), ones_build n)

  all_there : (n : ℕ) → eqb (length (build f (2 * n))) (2 * n) ≡ true
  all_there n = eq-eqb (length (build f (2 * n))) (2 * n) (length_build f (2 * n))

pub twos_at : {A : Type 0} {p : Part (A × A)} → PartLaw p → TwosAt p
twos_at {A = A} {p = p} P = record {
  held = λ n f h.
      (all_there f n, subst (λ vs. (n times p).Holds vs) (twos_build f n) (length_build (pair_at f) n, every_build P (pair_at f) n h));
  written = λ n f. ap (write_all p) (sym (twos_build f n));
  told = λ b at n f l h. rw ((times_at P).told b at n (pair_at f) l h, ones_build, all_there f n);
}
