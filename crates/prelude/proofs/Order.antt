-- The first broken rule is the one that `FirstBroken` says, in whatever order the rules' numbers stand.
-- Assumes nothing.
use mathlib.Core.Path.{◌≡◌, refl, sym, ◌∙◌}
use mathlib.Core.Bool.{Bool, true, false, not, cond, ◌&&◌, true≢false}
use mathlib.Core.List.{List, [], ◌∷◌, ◌++◌}
use Prim.Native.Nat.{ℕ, ◌<◌}
use native.Mathlib.Omega.{arith}
use lib.Dec.{eqb}
use borrow.Author.Tests.{eqb-true, eqb-false, eq-eqb, ne_eqb}
use Rattle.prelude.specs.Rules.{Rule, rule, of_part, first_broken, holds_in, before_hold, all_hold, FirstBroken, lacks, apart, distinct}
use Rattle.prelude.proofs.Conds.{two}

-- true and false are two
never : {t : Bool} → t ≡ true → t ≡ false → ⊥
never p q = true≢false (sym p ∙ q)

untrue : (t : Bool) → not t ≡ true → t ≡ false
untrue true e = sym e
untrue false e = refl

module _ {A : Type 0} where
  -- the first rule of a list doesn't have a number that the list lacks
  other_number : (x : Rule A) (xs : List (Rule A)) (n : ℕ) → lacks (x ∷ xs) n ≡ true → eqb x.number n ≡ false
  other_number x xs n l = untrue (eqb x.number n) (two (not (eqb x.number n)) (lacks xs n) l).0

  lacks_more : (x : Rule A) (xs : List (Rule A)) (n : ℕ) → lacks (x ∷ xs) n ≡ true → lacks xs n ≡ true
  lacks_more x xs n l = (two (not (eqb x.number n)) (lacks xs n) l).1

  module _ (r : A) where
    -- a number that no rule has can't fail
    no_such : (xs : List (Rule A)) (n : ℕ) → lacks xs n ≡ true → holds_in xs n r ≡ true
    unfolding holds_in
    no_such [] n l = refl
    no_such (x ∷ xs) n l = rw (other_number x xs n l) (no_such xs n (lacks_more x xs n l))

    -- the rule of the number given fails, and those before it hold
    given_fails : (xs : List (Rule A)) (n : ℕ) → apart xs ≡ true → first_broken xs r ≡ n → 0 < n
        → (holds_in xs n r ≡ false) × (before_hold xs n r ≡ true)
    unfolding first_broken holds_in before_hold
    given_fails [] n d e h = absurd (omega arith)
    given_fails (x ∷ xs) n d e h =
        let p = two (lacks xs x.number) (apart xs) d in
        go (x.holds r) refl e (λ f. given_fails xs n p.1 f h) (λ f. no_such xs n (rw f at p.0))
      where
        go : (t : Bool) → x.holds r ≡ t → cond t (first_broken xs r) x.number ≡ n
            → (first_broken xs r ≡ n → (holds_in xs n r ≡ false) × (before_hold xs n r ≡ true))
            → (x.number ≡ n → holds_in xs n r ≡ true)
            → (holds_in (x ∷ xs) n r ≡ false) × (before_hold (x ∷ xs) n r ≡ true)
        go false t e more once = let i = eq-eqb x.number n e in (rw i t, rw i)
        go true t e more once =
            let i = ne_eqb x.number n (λ f. never (once f) (more e).0) in
            (rw i (more e).0, rw (i, t) (more e).1)

    -- a rule that fails where those before it hold is the one that is given
    failing_given : (xs : List (Rule A)) (n : ℕ) → lacks xs 0 ≡ true → holds_in xs n r ≡ false → before_hold xs n r ≡ true
        → (first_broken xs r ≡ n) × (0 < n)
    unfolding first_broken holds_in before_hold
    failing_given [] n l f b = absurd (true≢false f)
    failing_given (x ∷ xs) n l f b =
        go (eqb x.number n) refl f b (other_number x xs 0 l) (failing_given xs n (lacks_more x xs 0 l))
      where
        go : (t : Bool) → eqb x.number n ≡ t → holds_in (x ∷ xs) n r ≡ false → before_hold (x ∷ xs) n r ≡ true
            → eqb x.number 0 ≡ false
            → (holds_in xs n r ≡ false → before_hold xs n r ≡ true → (first_broken xs r ≡ n) × (0 < n))
            → (cond (x.holds r) (first_broken xs r) x.number ≡ n) × (0 < n)
        go true t f b z more =
            let e = eqb-true x.number n t in
            let h = rw t at f in
            (rw h e, omega (arith, eqb-false x.number 0 z))
        go false t f b z more = let p = two (x.holds r) (before_hold xs n r) (rw t at b) in rw p.0 (more (rw t at f) p.1)

    none_given : (xs : List (Rule A)) → lacks xs 0 ≡ true → first_broken xs r ≡ 0 → all_hold xs r ≡ true
    unfolding first_broken all_hold
    none_given [] l e = refl
    none_given (x ∷ xs) l e = go (x.holds r) e (other_number x xs 0 l) (none_given xs (lacks_more x xs 0 l))
      where
        go : (t : Bool) → cond t (first_broken xs r) x.number ≡ 0 → eqb x.number 0 ≡ false
            → (first_broken xs r ≡ 0 → all_hold xs r ≡ true)
            → (t && all_hold xs r) ≡ true
        go true e z more = more e
        go false e z more = absurd (eqb-false x.number 0 z e)

    all_pass : (xs : List (Rule A)) → all_hold xs r ≡ true → first_broken xs r ≡ 0
    unfolding first_broken all_hold
    all_pass [] h = refl
    all_pass (x ∷ xs) h = let p = two (x.holds r) (all_hold xs r) h in rw p.0 (all_pass xs p.1)

  pub first_broken_lem : (xs : List (Rule A)) (r : A) → distinct xs ≡ true → FirstBroken xs r (first_broken xs r)
  first_broken_lem xs r d =
      let p = two (lacks xs 0) (apart xs) d in
      record {
        fails = λ n. (λ e. given_fails r xs n p.1 e.0 e.1, λ h. failing_given r xs n p.0 h.0 h.1);
        holds = (none_given r xs p.0, all_pass r xs);
      }

-- the rules of a part, then others: the first that fails is one of the part's, or else one of those
pub parts_then : {A B : Type 0} (part : B → A) (xs : List (Rule A)) (ys : List (Rule B)) (b : B) → lacks xs 0 ≡ true
    → first_broken (of_part part xs ++ ys) b ≡ cond (eqb (first_broken xs (part b)) 0) (first_broken ys b) (first_broken xs (part b))
unfolding first_broken of_part
parts_then part [] ys b l = refl
parts_then part (x ∷ xs) ys b l =
    go (x.holds (part b)) (other_number x xs 0 l) (parts_then part xs ys b (lacks_more x xs 0 l))
  where
    go : (t : Bool) → eqb x.number 0 ≡ false
        → first_broken (of_part part xs ++ ys) b ≡ cond (eqb (first_broken xs (part b)) 0) (first_broken ys b) (first_broken xs (part b))
        → cond t (first_broken (of_part part xs ++ ys) b) x.number
        ≡ cond (eqb (cond t (first_broken xs (part b)) x.number) 0) (first_broken ys b) (cond t (first_broken xs (part b)) x.number)
    go true z e = e
    go false z e = rw z

-- a rule behind others that holds wherever they all do changes no number
pub idle_behind : {A : Type 0} (xs : List (Rule A)) (x : Rule A) (a : A) → (all_hold xs a ≡ true → x.holds a ≡ true)
    → first_broken (xs ++ (x ∷ [])) a ≡ first_broken xs a
unfolding first_broken all_hold
idle_behind [] x a h = rw (h refl)
idle_behind (y ∷ ys) x a h = go (y.holds a) h (idle_behind ys x a)
  where
    go : (t : Bool) → ((t && all_hold ys a) ≡ true → x.holds a ≡ true)
        → ((all_hold ys a ≡ true → x.holds a ≡ true) → first_broken (ys ++ (x ∷ [])) a ≡ first_broken ys a)
        → cond t (first_broken (ys ++ (x ∷ [])) a) y.number ≡ cond t (first_broken ys a) y.number
    go true h more = more h
    go false h more = refl

-- examples: "before" goes by the list and not by the size of the numbers; a number that stands twice is found
module _ {A : Type 0} (p q s t : A → Bool) where
  abbrev unordered : List (Rule A)
  unordered = rule 50 p ∷ rule 53 q ∷ rule 51 s ∷ rule 52 t ∷ []

  of_unordered : (a : A) → FirstBroken unordered a (first_broken unordered a)
  of_unordered a = first_broken_lem unordered a refl

  before_51 : (a : A) → before_hold unordered 51 a ≡ (p a && (q a && true))
  unfolding before_hold
  before_51 a = refl

  one_twice : distinct (rule 50 p ∷ rule 53 q ∷ rule 50 s ∷ []) ≡ false
  one_twice = refl
