-- Elements of lists: of a cutting in which some key rises, each stands in exactly one part.
-- Assumes nothing.
use mathlib.Core.Path.{◌≡◌, refl, ap, subst, subst⁻¹}
use mathlib.Core.Bool.{Bool, true, false, cond}
use mathlib.Core.List.{List, [], ◌∷◌, ◌++◌}
use mathlib.Core.Logic.{◌⊎◌, inl, inr, ⊎_elim}
use Prim.Native.Nat.{ℕ, ◌+◌, ◌<◌, ◌≤◌}
use native.Mathlib.Decide.{ℕ_discrete}
use native.Mathlib.Omega.{arith}
use Rattle.prelude.specs.Every.{Every}
use Rattle.gathering.specs.Lists.{Some, Pairwise, ExactlyOne, Neighbours, those, flat, final, Across, Cut}
use Rattle.gathering.specs.Laying.{Rising}
use Rattle.gathering.proofs.Laying.{rising_down}

module _ {I : Type 0} where
  abbrev pub In : I → List I → Type 0
  In f xs = Some (λ x. x ≡ f) xs

  -- what is so of two, is so of those that they are
  pub of_both_lem : (T : I → I → Type 0) (x y p f : I) → (x ≡ p) × (y ≡ f) → T x y → T p f
  of_both_lem T x y p f e t = rw e.0 at (rw e.1 at t)

  -- what each has, an element has; and what each element has, each has
  pub every_in : (P : I → Type 0) (xs : List I) (f : I) → Every P xs → In f xs → P f
  unfolding Every Some
  every_in P [] f h i = absurd i
  every_in P (x ∷ xs) f h (inl e) = subst P e h.0
  every_in P (x ∷ xs) f h (inr i) = every_in P xs f h.1 i

  pub in_every : (P : I → Type 0) (xs : List I) → ((f : I) → In f xs → P f) → Every P xs
  unfolding Every Some
  in_every P [] h = tt
  in_every P (x ∷ xs) h = (h x (inl refl), in_every P xs (λ f i. h f (inr i)))

  -- an element that has a property makes it one that some element has
  pub some_in : (P : I → Type 0) (xs : List I) (f : I) → In f xs → P f → Some P xs
  unfolding Some
  some_in P [] f i p = absurd i
  some_in P (x ∷ xs) f (inl e) p = inl (rw e p)
  some_in P (x ∷ xs) f (inr i) p = inr (some_in P xs f i p)

  pub in_some : (P : I → Type 0) (C : Type 0) (xs : List I) → Some P xs → ((f : I) → In f xs → P f → C) → C
  unfolding Some
  in_some P C [] s k = absurd s
  in_some P C (x ∷ xs) (inl p) k = k x (inl refl) p
  in_some P C (x ∷ xs) (inr s) k = in_some P C xs s (λ f i p. k f (inr i) p)

  -- in two lists, one behind the other
  pub in_front : (g h : List I) (f : I) → In f g → In f (g ++ h)
  unfolding Some
  in_front [] h f i = absurd i
  in_front (x ∷ g) h f (inl e) = inl e
  in_front (x ∷ g) h f (inr i) = inr (in_front g h f i)

  pub in_behind : (g h : List I) (f : I) → In f h → In f (g ++ h)
  unfolding Some
  in_behind [] h f i = i
  in_behind (x ∷ g) h f i = inr (in_behind g h f i)

  in_either : (g h : List I) (f : I) → In f (g ++ h) → In f g ⊎ In f h
  unfolding Some
  in_either [] h f i = inr i
  in_either (x ∷ g) h f (inl e) = inl (inl e)
  in_either (x ∷ g) h f (inr i) = ⊎_elim (λ j. inl (inr j)) (λ j. inr j) (in_either g h f i)

  -- among those that pass a test
  pub those_in : (t : I → Bool) (xs : List I) (f : I) → In f (those t xs) → In f xs × (t f ≡ true)
  unfolding Some those
  those_in t [] f i = absurd i
  those_in t (x ∷ xs) f i = go (t x) refl i (λ j. those_in t xs f j)
    where
      go : (b : Bool) → t x ≡ b → In f (cond b (x ∷ those t xs) (those t xs)) → (In f (those t xs) → In f xs × (t f ≡ true))
          → In f (x ∷ xs) × (t f ≡ true)
      go true r (inl e) ih = (inl e, rw e at r)
      go true r (inr j) ih = let q = ih j in (inr q.0, q.1)
      go false r j ih = let q = ih j in (inr q.0, q.1)

  pub in_those : (t : I → Bool) (xs : List I) (f : I) → In f xs → t f ≡ true → In f (those t xs)
  unfolding Some those
  in_those t [] f i r = absurd i
  in_those t (x ∷ xs) f (inl e) r = let q = subst⁻¹ (λ y. t y ≡ true) e r in rw q (inl e)
  in_those t (x ∷ xs) f (inr i) r = go (t x) (in_those t xs f i r)
    where
      go : (b : Bool) → In f (those t xs) → In f (cond b (x ∷ those t xs) (those t xs))
      go true j = inr j
      go false j = j

  module _ (key : I → ℕ) where
    -- keys from low on
    pub above : (xs : List I) (low : ℕ) (f : I) → Rising key low xs → In f xs → low ≤ key f
    unfolding Rising Some
    above [] low f r i = absurd i
    above (x ∷ xs) low f r (inl e) = rw e at r.0
    above (x ∷ xs) low f r (inr i) = omega (arith, above xs (key x + 1) f r.1 i)

    -- elements of one key are one
    pub unique : (xs : List I) (low : ℕ) (f g : I) → Rising key low xs → In f xs → In g xs → key f ≡ key g → f ≡ g
    unfolding Rising Some
    unique [] low f g r i j e = absurd i
    unique (x ∷ xs) low f g r (inl a) (inl b) e = cc
    unique (x ∷ xs) low f g r (inl a) (inr j) e = absurd (omega (arith, above xs (key x + 1) g r.1 j, ap key a))
    unique (x ∷ xs) low f g r (inr i) (inl b) e = absurd (omega (arith, above xs (key x + 1) f r.1 i, ap key b))
    unique (x ∷ xs) low f g r (inr i) (inr j) e = unique xs (key x + 1) f g r.1 i j e

    -- behind the first part the keys are above those in it
    parted : (g h : List I) (low : ℕ) (f : I) → Rising key low (g ++ h) → In f g → In f h → ⊥
    unfolding Rising Some
    parted [] h low f r i j = i
    parted (x ∷ g) h low f r (inl e) j = omega (arith, above (g ++ h) (key x + 1) f r.1 (in_behind g h f j), ap key e)
    parted (x ∷ g) h low f r (inr i) j = parted g h (key x + 1) f r.1 i j

    rising_behind : (g h : List I) (low : ℕ) → Rising key low (g ++ h) → Rising key low h
    unfolding Rising
    rising_behind [] h low r = r
    rising_behind (x ∷ g) h low r = rising_down key h low (key x + 1) (omega arith) (rising_behind g h (key x + 1) r.1)

  abbrev pub Among : List I → List I → Type 0
  Among rs g = (x : I) → In x g → In x rs

  pub among_all : (rs g : List I) → g ≡ rs → Among rs g
  among_all rs g e x i = rw e at i

  -- those of some that pass a test are among those of all
  pub among_those : (t : I → Bool) (rs g : List I) → Among rs g → Among (those t rs) (those t g)
  among_those t rs g a x i = let q = those_in t g x i in in_those t rs x (a x q.0) q.1

  -- where two lists, one behind the other, are among rs, so is each
  among_front : (rs g h : List I) → Among rs (g ++ h) → Among rs g
  among_front rs g h a x i = a x (in_front g h x i)

  among_behind : (rs g h : List I) → Among rs (g ++ h) → Among rs h
  among_behind rs g h a x i = a x (in_behind g h x i)

  -- parts gs of the records rs, each handed out as one of os
  module _ {O : Type 0} (P : List I → O → Type 0) (rs : List I) where
    -- what is so of each
    pub each : (Q : O → Type 0) → ((g : List I) (o : O) → P g o → Among rs g → Q o) → (gs : List (List I)) (os : List O)
        → Pairwise P gs os → Among rs (flat gs) → Every Q os
    unfolding Pairwise Every flat
    each Q q [] [] h a = tt
    each Q q [] (o ∷ os) h a = absurd h
    each Q q (g ∷ gs) [] h a = absurd h
    each Q q (g ∷ gs) (o ∷ os) h a = (q g o h.0 (among_front rs g (flat gs) a), each Q q gs os h.1 (among_behind rs g (flat gs) a))

    -- what is so of one
    pub some_out : (Q : O → Type 0) (B : List I → Type 0) → ((g : List I) (o : O) → P g o → Among rs g → B g → Q o)
        → (gs : List (List I)) (os : List O) → Pairwise P gs os → Among rs (flat gs) → Some B gs → Some Q os
    unfolding Pairwise Some flat
    some_out Q B q [] os h a s = absurd s
    some_out Q B q (g ∷ gs) [] h a s = absurd h
    some_out Q B q (g ∷ gs) (o ∷ os) h a (inl b) = inl (q g o h.0 (among_front rs g (flat gs) a) b)
    some_out Q B q (g ∷ gs) (o ∷ os) h a (inr s) = inr (some_out Q B q gs os h.1 (among_behind rs g (flat gs) a) s)

    -- f is in a part exactly when what is handed out for it is its own: then it has exactly one
    module _ (Own : O → Type 0) (f : I)
        (own_in : (g : List I) (o : O) → P g o → Among rs g → In f g → Own o)
        (in-own : (g : List I) (o : O) → P g o → Among rs g → Own o → In f g) where
      none : (gs : List (List I)) (os : List O) → Pairwise P gs os → Among rs (flat gs) → (In f (flat gs) → ⊥) → Every (λ o. Own o → ⊥) os
      unfolding Pairwise Every flat
      none [] [] h a n = tt
      none [] (o ∷ os) h a n = absurd h
      none (g ∷ gs) [] h a n = absurd h
      none (g ∷ gs) (o ∷ os) h a n = (
        λ q. n (in_front g (flat gs) f (in-own g o h.0 (among_front rs g (flat gs) a) q)),
        none gs os h.1 (among_behind rs g (flat gs) a) (λ i. n (in_behind g (flat gs) f i)),
      )

      pub once_in : (key : I → ℕ) (gs : List (List I)) (os : List O) (low : ℕ) → Pairwise P gs os → Among rs (flat gs)
          → Rising key low (flat gs) → In f (flat gs) → ExactlyOne Own os
      unfolding Pairwise ExactlyOne flat Some
      once_in key [] os low h a r i = absurd i
      once_in key (g ∷ gs) [] low h a r i = absurd h
      once_in key (g ∷ gs) (o ∷ os) low h a r i =
          go (in_either g (flat gs) f i) (λ j. once_in key gs os low h.1 behind (rising_behind key g (flat gs) low r) j)
        where
          front : Among rs g
          front = among_front rs g (flat gs) a

          behind : Among rs (flat gs)
          behind = among_behind rs g (flat gs) a

          go : In f g ⊎ In f (flat gs) → (In f (flat gs) → ExactlyOne Own os) → ExactlyOne Own (o ∷ os)
          go (inl j) ih = inl (own_in g o h.0 front j, none gs os h.1 behind (λ q. parted key g (flat gs) low f r j q))
          go (inr j) ih = inr (λ q. parted key g (flat gs) low f r (in-own g o h.0 front q) j, ih j)

  -- neighbours stand in one part, or at the end of one and the start of the next
  module _ (R S : I → I → Type 0) (p f : I) where
    abbrev Both : List I → Type 0
    Both g = In p g × In f g

    within : (xs : List I) (x : I) (gs : List (List I)) → Across S (final x xs) gs → Cut R S gs → (Neighbours p f (flat gs) → Some Both gs ⊎ S p f)
        → Neighbours p f ((x ∷ xs) ++ flat gs) → Some Both ((x ∷ xs) ∷ gs) ⊎ S p f
    unfolding Across flat Neighbours Some final
    within [] x [] a c ih n = absurd n
    within [] x ([] ∷ gs) a c ih n = absurd a
    within [] x ((y ∷ ys) ∷ gs) a c ih (inl e) = inr (of_both_lem S x y p f e a)
    within [] x ((y ∷ ys) ∷ gs) a c ih (inr n) = ⊎_elim (λ s. inl (inr s)) (λ s. inr s) (ih n)
    within (y ∷ ys) x gs a c ih (inl e) = inl (inl (inl e.0, inr (inl e.1)))
    within (y ∷ ys) x gs a c ih (inr n) = ⊎_elim wider (λ s. inr s) (within ys y gs a c ih n)
      where
        wider : Some Both ((y ∷ ys) ∷ gs) → Some Both ((x ∷ y ∷ ys) ∷ gs) ⊎ S p f
        wider (inl b) = inl (inl (inr b.0, inr b.1))
        wider (inr s) = inl (inr s)

    pub beside : (gs : List (List I)) → Cut R S gs → Neighbours p f (flat gs) → Some Both gs ⊎ S p f
    unfolding Cut flat Neighbours
    beside [] c n = absurd n
    beside ([] ∷ gs) c n = absurd c
    beside ((x ∷ xs) ∷ gs) c n = within xs x gs c.1 c.2 (λ m. beside gs c.2 m) n

  -- one of them has it, or none
  found : (key : I → ℕ) (u : ℕ) (g : List I) → Some (λ f. key f ≡ u) g ⊎ Every (λ f. key f ≡ u → ⊥) g
  unfolding Some Every
  found key u [] = inr tt
  found key u (x ∷ g) = go (ℕ_discrete (key x) u) (found key u g)
    where
      go : Dec (key x ≡ u) → Some (λ f. key f ≡ u) g ⊎ Every (λ f. key f ≡ u → ⊥) g → Some (λ f. key f ≡ u) (x ∷ g) ⊎ Every (λ f. key f ≡ u → ⊥) (x ∷ g)
      go (yes e) r = inl (inl e)
      go (no e) (inl s) = inl (inr s)
      go (no e) (inr n) = inr (e, n)

  -- where it is not so that none has it, what follows from one that has it holds
  pub one_has : (key : I → ℕ) (u : ℕ) (g : List I) (C : Type 0) → (Every (λ f. key f ≡ u → ⊥) g → ⊥)
      → ((f : I) → In f g → key f ≡ u → C) → C
  one_has key u g C some so =
      ⊎_elim (λ s. in_some (λ f. key f ≡ u) C g s so) (λ n. absurd (some n)) (found key u g)

  -- neighbours
  pub neighbours_in : (xs : List I) (p f : I) → Neighbours p f xs → In p xs × In f xs
  unfolding Neighbours Some
  neighbours_in [] p f n = absurd n
  neighbours_in (x ∷ []) p f n = absurd n
  neighbours_in (x ∷ y ∷ ys) p f (inl e) = (inl e.0, inr (inl e.1))
  neighbours_in (x ∷ y ∷ ys) p f (inr n) = let r = neighbours_in (y ∷ ys) p f n in (inr r.0, inr r.1)

  pub neighbours_rise : (key : I → ℕ) (xs : List I) (low : ℕ) (p f : I) → Rising key low xs → Neighbours p f xs → key p < key f
  unfolding Neighbours Rising
  neighbours_rise key [] low p f r n = absurd n
  neighbours_rise key (x ∷ []) low p f r n = absurd n
  neighbours_rise key (x ∷ y ∷ ys) low p f r (inl e) = of_both_lem (λ z w. key z < key w) x y p f e (omega arith)
  neighbours_rise key (x ∷ y ∷ ys) low p f r (inr n) = neighbours_rise key (y ∷ ys) (key x + 1) p f r.1 n
