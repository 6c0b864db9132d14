-- The laws of wholes, from those of their parts; and what a law determines.
-- Assumes nothing.
use mathlib.Core.Bool.{Bool, true, false, cond}
use mathlib.Core.List.{List, [], ◌∷◌, ◌++◌}
use mathlib.Core.Option.{Option, none, some, some-injective, some-ne-none}
use mathlib.Core.Path.{◌≡◌, refl, sym, ap, subst, ◌∙◌}
use Prim.Native.Nat.{ℕ, zero, suc, ◌+◌, ◌-◌, ◌*◌}
use native.Mathlib.Nat.{add_comm, zero-mul, suc-mul}
use native.Mathlib.Omega.{arith}
use lib.Dec.{eqb, ltb}
use lib.ListN.{length, take, drop, length-append, length-drop, take-append-drop, get_or-append}
use lib.Seq.{take_at, drop_at, length-take-le, get_or-drop, get_or-append-add}
use borrow.Author.Tests.{eqb-true, ltb-true, ltb-false}
use Rattle.prelude.proofs.Conds.{cases}
use Rattle.prelude.specs.Every.{Every}
use Rattle.bits.specs.Twelve.{Bytes}
use Rattle.bits.proofs.BytesOf.{bytes_part}
use Rattle.formats.specs.Part.{Part, PartLaw, Determined}
use Rattle.formats.specs.Wholes.{of_both, pair, ◌then◌, write_all, read_all, ◌times◌, shown, seen, limited, by_twos, one_by_one, ◌twos◌}

pub determined : {A : Type 0} {p : Part A} → PartLaw p → Determined p
determined {p = p} P = record {
  value = λ v w h k e. some-injective v w (sym (P.back v h) ∙ ap p.read e ∙ P.back w k);
  bytes = λ v b c l m x y d e. sym (P.forth b v l x d) ∙ P.forth c v m y e;
}

-- bytes joined, and the last of them
bytes_append : (a b : List ℕ) → Bytes a → Bytes b → Bytes (a ++ b)
bytes_append a b h k i =
    cases (ltb i (length a))
    (λ t. rw (get_or-append a b 0 i (ltb-true i (length a) t)) (h i))
    (λ t.
    let r = i - length a in
    let e : i ≡ length a + r = omega (arith, ltb-false i (length a) t) in
    rw (e, get_or-append-add) (k r))

bytes_drop : (b : List ℕ) (n : ℕ) → Bytes b → Bytes (drop n b)
bytes_drop b n h i = rw get_or-drop (h (n + i))

-- two are there where they are together
together_some : {A B C : Type 0} (f : A → B → C) (x : Option A) (y : Option B) (c : C) → of_both f x y ≡ some c
    → (a : A) × (b : B) × (x ≡ some a) × (y ≡ some b) × (f a b ≡ c)
together_some f (some a) (some b) c e = (a, b, refl, refl, some-injective (f a b) c e)
together_some f (some a) none c e = absurd (some-ne-none c (sym e))
together_some f none y c e = absurd (some-ne-none c (sym e))

module _ {A B : Type 0} {p : Part A} {q : Part B} (P : PartLaw p) (Q : PartLaw q) where
  -- bytes that read as a value, cut in two
  module _ (b : List ℕ) (v : A × B) (l : length b ≡ (p then q).size) (h : Bytes b) (e : (p then q).read b ≡ some v) where
    abbrev s : ℕ
    s = p.size

    first : p.read (take s b) ≡ some v.0
    first = let d = together_some pair (p.read (take s b)) (q.read (drop s b)) v e in d.2 ∙ ap (λ u. some u.0) d.4

    second : q.read (drop s b) ≡ some v.1
    second = let d = together_some pair (p.read (take s b)) (q.read (drop s b)) v e in d.3 ∙ ap (λ u. some u.1) d.4

    length_first : length (take s b) ≡ s
    length_first = length-take-le s b (omega arith)

    length_second : length (drop s b) ≡ q.size
    length_second = length-drop s b ∙ omega arith

    then_held : (p then q).Holds v
    then_held = (
      P.held (take s b) v.0 length_first (bytes_part b 0 s h) first,
      Q.held (drop s b) v.1 length_second (bytes_drop b s h) second,
    )

    then_forth : (p then q).write v ≡ b
    then_forth =
        let x = P.forth (take s b) v.0 length_first (bytes_part b 0 s h) first in
        let y = Q.forth (drop s b) v.1 length_second (bytes_drop b s h) second in
        rw (x, y) (take-append-drop s b)

  then_back : (v : A × B) → (p then q).Holds v → (p then q).read ((p then q).write v) ≡ some v
  then_back v h =
      let a = p.write v.0 in
      let b = q.write v.1 in
      let l = P.sized v.0 h.0 in
      rw (take_at, drop_at, P.back v.0 h.0, Q.back v.1 h.1)

  pub then_law : PartLaw (p then q)
  then_law = record {
    sized = λ v h. length-append (p.write v.0) (q.write v.1) ∙ rw (P.sized v.0 h.0, Q.sized v.1 h.1);
    bytes = λ v h. bytes_append (p.write v.0) (q.write v.1) (P.bytes v.0 h.0) (Q.bytes v.1 h.1);
    back = then_back;
    held = then_held;
    forth = then_forth;
  }

module _ {A : Type 0} {p : Part A} (P : PartLaw p) where
  pub all_sized : (xs : List A) → Every p.Holds xs → length (write_all p xs) ≡ length xs * p.size
  unfolding write_all Every
  all_sized [] h = omega arith
  all_sized (x ∷ xs) h =
      length-append (p.write x) (write_all p xs)
      ∙ rw (P.sized x h.0, all_sized xs h.1, suc-mul) (add_comm p.size (length xs * p.size))

  all_bytes : (xs : List A) → Every p.Holds xs → Bytes (write_all p xs)
  unfolding write_all Every
  all_bytes [] h = omega arith
  all_bytes (x ∷ xs) h = bytes_append (p.write x) (write_all p xs) (P.bytes x h.0) (all_bytes xs h.1)

  all_back : (xs : List A) → Every p.Holds xs → read_all p (length xs) (write_all p xs) ≡ some xs
  unfolding write_all read_all Every
  all_back [] h = refl
  all_back (x ∷ xs) h =
      let l = P.sized x h.0 in
      let w = write_all p xs in
      rw (take_at, drop_at, P.back x h.0, all_back xs h.1)

  empty : (b : List ℕ) → length b ≡ 0 → [] ≡ b
  empty [] l = refl
  empty (x ∷ b) l = cc

  -- what n elements read of bytes are: so many, each of them held, and written as the bytes
  abbrev Read : ℕ → List ℕ → List A → Type 0
  Read n b xs = ((length xs ≡ n) × Every p.Holds xs) × (write_all p xs ≡ b)

  all_read : (n : ℕ) (b : List ℕ) (xs : List A) → length b ≡ n * p.size → Bytes b → read_all p n b ≡ some xs → Read n b xs
  unfolding write_all read_all Every
  all_read zero b xs l h e = subst (Read zero b) (some-injective [] xs e) ((refl, tt), empty b (l ∙ zero-mul p.size))
  all_read (suc n) b xs l h e =
      let s = p.size in
      let d = together_some ◌∷◌ (p.read (take s b)) (read_all p n (drop s b)) xs e in
      let m = l ∙ suc-mul n s in
      let i = length-take-le s b (omega arith) in
      let j : length (drop s b) ≡ n * s = length-drop s b ∙ omega arith in
      let c = bytes_part b 0 s h in
      let r = all_read n (drop s b) d.1 j (bytes_drop b s h) d.3 in
      let w : p.write d.0 ++ write_all p d.1 ≡ b = rw (P.forth (take s b) d.0 i c d.2, r.1) (take-append-drop s b) in
      subst (Read (suc n) b) d.4 ((ap suc r.0.0, (P.held (take s b) d.0 i c d.2, r.0.1)), w)

  pub times_law : (n : ℕ) → PartLaw (n times p)
  times_law n = record {
    sized = λ xs h. all_sized xs h.1 ∙ rw h.0;
    bytes = λ xs h. all_bytes xs h.1;
    back = λ xs h. rw h.0 at (all_back xs h.1);
    held = λ b xs l h e. (all_read n b xs l h e).0;
    forth = λ b xs l h e. (all_read n b xs l h e).1;
  }

  -- what is shown was there, and passes the test
  shown_some : {B : Type 0} (to : A → B) (good : B → Bool) (x : Option A) (w : B) → shown to good x ≡ some w
      → (a : A) × (x ≡ some a) × (to a ≡ w) × (good (to a) ≡ true)
  shown_some to good none w e = absurd (some-ne-none w (sym e))
  shown_some to good (some a) w e = go (good (to a)) refl e
    where
      go : (t : Bool) → good (to a) ≡ t → cond t (some (to a)) none ≡ some w → (c : A) × (some a ≡ some c) × (to c ≡ w) × (good (to c) ≡ true)
      go true t e = (a, refl, some-injective (to a) w e, t)
      go false t e = absurd (some-ne-none w (sym e))

  -- Asked of the two ways: what the part holds and passes the test when seen goes back to itself, and what passes the test and the part
  -- holds when it goes back is seen as itself.
  module _
      {B : Type 0} (to : A → B) (from : B → A) (good : B → Bool)
      (one : (a : A) → p.Holds a → good (to a) ≡ true → from (to a) ≡ a)
      (other : (v : B) → good v ≡ true → p.Holds (from v) → to (from v) ≡ v) where
    seen_read : (b : List ℕ) (v : B) → length b ≡ p.size → Bytes b → shown to good (p.read b) ≡ some v → (good v ≡ true) × (p.read b ≡ some (from v))
    seen_read b v l h e =
        let d = shown_some to good (p.read b) v e in
        let f = sym (one d.0 (P.held b d.0 l h d.1) d.3) ∙ ap from d.2 in
        (ap good (sym d.2) ∙ d.3, d.1 ∙ ap some f)

    pub seen_law : PartLaw (seen to from good p)
    seen_law = record {
      sized = λ v h. P.sized (from v) h.1;
      bytes = λ v h. P.bytes (from v) h.1;
      back = λ v h. rw (P.back (from v) h.1, other v h.0 h.1, h.0);
      held = λ b v l h e. let r = seen_read b v l h e in (r.0, P.held b (from v) l h r.1);
      forth = λ b v l h e. P.forth b (from v) l h (seen_read b v l h e).1;
    }

  pub limited_law : (good : A → Bool) → PartLaw (limited good p)
  limited_law good = seen_law (λ v. v) (λ v. v) good (λ a h k. refl) (λ v h k. refl)

-- Pairs one by one, and two by two again.
pub twos_same : {A : Type 0} (vs : List (A × A)) → by_twos (one_by_one vs) ≡ vs
unfolding by_twos one_by_one
twos_same [] = refl
twos_same {A = A} (v ∷ vs) = rw (twos_same vs)

ones_same : {A : Type 0} (n : ℕ) (xs : List A) → length xs ≡ 2 * n → one_by_one (by_twos xs) ≡ xs
unfolding by_twos one_by_one
ones_same n [] e = refl
ones_same n (x ∷ []) e = absurd (omega arith)
ones_same {A = A} n (x ∷ (y ∷ xs)) e = rw (ones_same (n - 1) xs (omega arith))

pub twos_law : {A : Type 0} {p : Part (A × A)} → PartLaw p → (n : ℕ) → PartLaw (n twos p)
twos_law P n =
    seen_law (times_law P n) one_by_one by_twos (λ xs. eqb (length xs) (2 * n)) (λ vs h k. twos_same vs)
    (λ xs h k. ones_same n xs (eqb-true (length xs) (2 * n) h))
