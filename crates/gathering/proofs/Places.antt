-- Where the items of what is handed out don't tell it apart, its place does: the item of number i stands in exactly one, by how many
-- stand in those before it; and neighbours stand in one or in two.
-- Assumes nothing.
use mathlib.Core.Path.{◌≡◌, refl}
use mathlib.Core.Bool.{Bool, true, false}
use mathlib.Core.List.{List, [], ◌∷◌, ◌++◌}
use mathlib.Core.Logic.{◌⊎◌, inl, inr, ⊎_elim}
use Prim.Native.Nat.{ℕ, zero, suc, ◌+◌, ◌-◌, ◌<◌}
use native.Mathlib.Omega.{arith}
use lib.Dec.{ltb}
use lib.ListN.{length}
use borrow.Author.Tests.{ltb-true, ltb-false}
use Rattle.prelude.specs.Every.{Every}
use Rattle.prelude.proofs.Every.{every_map}
use Rattle.gathering.specs.Lists.{Some, Pairwise, ExactlyOne, flat, Linked, final, Across, Cut}
use Rattle.gathering.specs.Places.{At, Placed, placed, HasItem, HasBoth}
use Rattle.gathering.proofs.Members.{In, of_both_lem, every_in}

module _ {I : Type 0} where
  -- in the first of two lists, or behind it
  at_front : (g h : List I) (i : ℕ) (f : I) → i < length g → At i f (g ++ h) → At i f g
  unfolding At
  at_front [] h i f l a = absurd (omega arith)
  at_front (x ∷ g) h zero f l a = a
  at_front (x ∷ g) h (suc i) f l a = at_front g h i f (omega arith) a

  at_behind : (g h : List I) (i j : ℕ) (f : I) → i ≡ length g + j → At i f (g ++ h) → At j f h
  unfolding At
  at_behind [] h i j f e a = let q : i ≡ j = omega arith in rw q at a
  at_behind (x ∷ g) h zero j f e a = absurd (omega arith)
  at_behind (x ∷ g) h (suc i) j f e a = at_behind g h i j f (omega arith) a

  front_at : (g h : List I) (i : ℕ) (f : I) → At i f g → At i f (g ++ h)
  unfolding At
  front_at [] h i f a = absurd a
  front_at (x ∷ g) h zero f a = a
  front_at (x ∷ g) h (suc i) f a = front_at g h i f a

  behind_at : (g h : List I) (i j : ℕ) (f : I) → i ≡ length g + j → At j f h → At i f (g ++ h)
  unfolding At
  behind_at [] h i j f e a = let q : j ≡ i = omega arith in rw q at a
  behind_at (x ∷ g) h zero j f e a = absurd (omega arith)
  behind_at (x ∷ g) h (suc i) j f e a = behind_at g h i j f (omega arith) a

  pub at_in : (g : List I) (i : ℕ) (f : I) → At i f g → In f g
  unfolding At Some
  at_in [] i f a = absurd a
  at_in (x ∷ g) zero f a = inl a
  at_in (x ∷ g) (suc i) f a = inr (at_in g i f a)

-- neighbours in one list, and the last of it
module _ {I : Type 0} (R : I → I → Type 0) where
  linked_at : (xs : List I) (x : I) (i : ℕ) (p f : I) → Linked R x xs → At i p (x ∷ xs) → At (suc i) f (x ∷ xs) → R p f
  unfolding Linked At
  linked_at [] x i p f l a b = absurd b
  linked_at (y ∷ ys) x zero p f l a b = of_both_lem R x y p f (a, b) l.0
  linked_at (y ∷ ys) x (suc i) p f l a b = linked_at ys y i p f l.1 a b

  across_at : (xs : List I) (x : I) (gs : List (List I)) (i : ℕ) (p f : I) → i ≡ length xs → Across R (final x xs) gs → At i p (x ∷ xs)
      → At 0 f (flat gs) → R p f
  unfolding Across final At flat
  across_at [] x [] i p f e c a b = absurd b
  across_at [] x ([] ∷ gs) i p f e c a b = absurd c
  across_at [] x ((y ∷ ys) ∷ gs) zero p f e c a b = of_both_lem R x y p f (a, b) c
  across_at [] x ((y ∷ ys) ∷ gs) (suc i) p f e c a b = absurd a
  across_at (z ∷ zs) x gs zero p f e c a b = absurd (omega arith)
  across_at (z ∷ zs) x gs (suc i) p f e c a b = across_at zs z gs i p f (omega arith) c a b

-- an item that stands before them all is in none
none_has : {O : Type 0} (items : O → ℕ) (os : List O) (n m i : ℕ) → i < m → Every (λ e. HasItem items i e → ⊥) (placed items n m os)
unfolding placed Every
none_has items [] n m i l = tt
none_has items (o ∷ os) n m i l = (λ h. omega arith, none_has items os (n + 1) (m + items o) i (omega arith))

module _ {I O : Type 0} (P : List I → O → Type 0) (items : O → ℕ) (is : (g : List I) (o : O) → P g o → items o ≡ length g) where
  -- what is so of each, with the places of its items among all items ys
  pub each_placed : (U : Placed O → Type 0) (ys : List I)
      → ((g : List I) (e : Placed O) → P g e.thing → ((i : ℕ) (f : I) → At i f g → At (e.before + i) f ys) → U e)
      → (gs : List (List I)) (os : List O) (n m : ℕ) → Pairwise P gs os → ((i : ℕ) (f : I) → At i f (flat gs) → At (m + i) f ys)
      → Every U (placed items n m os)
  unfolding Pairwise flat placed Every
  each_placed U ys so [] [] n m h a = tt
  each_placed U ys so [] (o ∷ os) n m h a = absurd h
  each_placed U ys so (g ∷ gs) [] n m h a = absurd h
  each_placed U ys so (g ∷ gs) (o ∷ os) n m h a = (
    so g (record { place = n; before = m; thing = o }) h.0 (λ i f b. a i f (front_at g (flat gs) i f b)),
    each_placed U ys so gs os (n + 1) (m + items o) h.1 (λ i f b.
        let e : m + (length g + i) ≡ m + items o + i = omega (arith, is g o h.0) in
        rw e at (a (length g + i) f (behind_at g (flat gs) (length g + i) i f refl b))),
  )

  -- items number i and i + 1: in one, or in two
  module _ (R S : I → I → Type 0) where
    abbrev pub OneOrTwo : I → I → ℕ → List (Placed O) → Type 0
    OneOrTwo p f i es = (R p f × Some (HasBoth items i) es) ⊎ (S p f × Every (λ e. HasBoth items i e → ⊥) es)

    pub one_or_two : (gs : List (List I)) (os : List O) (n m i : ℕ) (p f : I) → Cut R S gs → Pairwise P gs os
        → At i p (flat gs) → At (suc i) f (flat gs) → OneOrTwo p f (m + i) (placed items n m os)
    unfolding Cut Pairwise flat placed Some Every
    one_or_two [] os n m i p f c h a b = unfold At in absurd a
    one_or_two ([] ∷ gs) os n m i p f c h a b = absurd c
    one_or_two ((x ∷ xs) ∷ gs) [] n m i p f c h a b = absurd h
    one_or_two ((x ∷ xs) ∷ gs) (o ∷ os) n m i p f c h a b =
        go (ltb i (length xs)) refl (ltb i (length (x ∷ xs))) refl (one_or_two gs os (n + 1) (m + items o) (i - length (x ∷ xs)) p f c.2 h.1)
      where
        size : items o ≡ suc (length xs)
        size = is (x ∷ xs) o h.0

        go : (s : Bool) → ltb i (length xs) ≡ s → (t : Bool) → ltb i (length (x ∷ xs)) ≡ t
            → (At (i - length (x ∷ xs)) p (flat gs) → At (suc (i - length (x ∷ xs))) f (flat gs)
            → OneOrTwo p f (m + items o + (i - length (x ∷ xs))) (placed items (n + 1) (m + items o) os))
            → OneOrTwo p f (m + i) (placed items n m (o ∷ os))
        go true e t q ih =
            let l = ltb-true i (length xs) e in
            let r = linked_at R xs x i p f c.0 (at_front (x ∷ xs) (flat gs) i p (omega arith) a) (at_front (x ∷ xs) (flat gs) (suc i) f (omega arith) b) in
            inl (r, inl ((omega arith, omega (arith, size)), (omega arith, omega (arith, size))))
        go false e true q ih =
            let k = ltb-false i (length xs) e in
            let l = ltb-true i (length (x ∷ xs)) q in
            let d = at_front (x ∷ xs) (flat gs) i p l a in
            let r = across_at S xs x gs i p f (omega arith) c.1 d (at_behind (x ∷ xs) (flat gs) (suc i) 0 f (omega arith) b) in
            let none = none_has items os (n + 1) (m + items o) (m + i) (omega (arith, size)) in
            inr (r, (λ j. omega (arith, size), every_map _ _ (λ y z j. z j.0) (placed items (n + 1) (m + items o) os) none))
        go false e false q ih =
            let l = ltb-false i (length (x ∷ xs)) q in
            let z : m + items o + (i - length (x ∷ xs)) ≡ m + i = omega (arith, size) in
            let d = at_behind (x ∷ xs) (flat gs) i (i - length (x ∷ xs)) p (omega arith) a in
            let u = at_behind (x ∷ xs) (flat gs) (suc i) (suc (i - length (x ∷ xs))) f (omega arith) b in
            let r = rw z at (ih d u) in
            ⊎_elim (λ y. inl (y.0, inr y.1))
            (λ y.
            inr (y.0, (λ j. omega arith, y.1)))
            r

-- Q is what each item has in its part
module _ {I O : Type 0} (P : List I → O → Type 0) (items : O → ℕ) (is : (g : List I) (o : O) → P g o → items o ≡ length g)
    (Q : I → O → Type 0) (all : (g : List I) (o : O) → P g o → Every (λ f. Q f o) g) where
  any_so : (f : I) (k : ℕ) (es : List (Placed O)) → Every (λ e. HasItem items k e → ⊥) es → Every (λ e. HasItem items k e → Q f e.thing) es
  any_so f k es r = every_map (λ e. HasItem items k e → ⊥) (λ e. HasItem items k e → Q f e.thing) (λ e n h. absurd (n h)) es r

  -- exactly one has it, and the item has there what it has in its part
  abbrev pub Stood : I → ℕ → List (Placed O) → Type 0
  Stood f k es = ExactlyOne (HasItem items k) es × Every (λ e. HasItem items k e → Q f e.thing) es

  -- item number i, with n things and m items before them all
  pub item_stands : (gs : List (List I)) (os : List O) (n m i : ℕ) (f : I) → Pairwise P gs os → At i f (flat gs) → Stood f (m + i) (placed items n m os)
  unfolding Pairwise flat At placed ExactlyOne Every
  item_stands [] os n m i f h a = absurd a
  item_stands (g ∷ gs) [] n m i f h a = absurd h
  item_stands (g ∷ gs) (o ∷ os) n m i f h a = go (ltb i (length g)) refl (item_stands gs os (n + 1) (m + items o) (i - length g) f h.1)
    where
      size : items o ≡ length g
      size = is g o h.0

      go : (t : Bool) → ltb i (length g) ≡ t
          → (At (i - length g) f (flat gs) → Stood f (m + items o + (i - length g)) (placed items (n + 1) (m + items o) os))
          → Stood f (m + i) (placed items n m (o ∷ os))
      go true e ih =
          let l = ltb-true i (length g) e in
          let j = at_in g i f (at_front g (flat gs) i f l a) in
          let none = none_has items os (n + 1) (m + items o) (m + i) (omega (arith, size)) in
          let there = every_in (λ x. Q x o) g f (all g o h.0) j in
          (inl ((omega arith, omega (arith, size)), none), (λ b. there, any_so f (m + i) (placed items (n + 1) (m + items o) os) none))
      go false e ih =
          let l = ltb-false i (length g) e in
          let q : m + items o + (i - length g) ≡ m + i = omega (arith, size) in
          let r = ih (at_behind g (flat gs) i (i - length g) f (omega arith) a) in
          let rest = rw q at r in
          (inr (λ b. omega arith, rest.0), (λ b. absurd (omega arith), rest.1))
