-- Each item has exactly one of its own among what is handed out, and what is handed out comes from such items.
-- Assumes nothing.
use mathlib.Core.Path.{◌≡◌, sym, ap, ◌∙◌}
use mathlib.Core.Bool.{Bool, true, false, true≢false}
use mathlib.Core.List.{List, [], ◌∷◌}
use mathlib.Core.Logic.{◌⊎◌, inl, inr, ⊎_elim}
use Prim.Native.Nat.{ℕ}
use Rattle.prelude.specs.Every.{Every}
use Rattle.gathering.specs.Lists.{Some, Pairwise, ExactlyOne, Neighbours, flat, Linked, Cut}
use Rattle.gathering.specs.Laying.{Rising, Unused}
use Rattle.gathering.proofs.Members.{In, Among, among_all, every_in, in_every, some_in, one_has, each, some_out, once_in, beside}

-- a part of a cutting, with what links it
unfoldable pub Tied : {I : Type 0} → (I → I → Type 0) → List I → Type 0
Tied R [] = ⊥
Tied R (x ∷ xs) = Linked R x xs

pub all_tied : {I O : Type 0} (R S : I → I → Type 0) (P : List I → O → Type 0) (gs : List (List I)) (os : List O)
    → Cut R S gs → Pairwise P gs os → Pairwise (λ g o. P g o × Tied R g) gs os
unfolding Cut Pairwise Tied
all_tied R S P [] [] c h = tt
all_tied R S P [] (o ∷ os) c h = absurd h
all_tied R S P (g ∷ gs) [] c h = absurd h
all_tied R S P ([] ∷ gs) (o ∷ os) c h = absurd c
all_tied R S P ((x ∷ xs) ∷ gs) (o ∷ os) c h = ((h.0, c.0), all_tied R S P gs os c.2 h.1)

-- marks of the keys of the items in g
module _ {I : Type 0} (key : I → ℕ) (g : List I) (set : ℕ → Bool) (u : ℕ) where
  -- a mark that is set is an item's, and so that of one of all items rs
  pub set_by : (Unused key u g → set u ≡ false) → set u ≡ true → (C : Type 0) → ((y : I) → In y g → key y ≡ u → C) → C
  set_by free e C so = one_has key u g C (λ n. true≢false (sym e ∙ free n)) so

  pub set_from : (rs : List I) → Among rs g → (Unused key u g → set u ≡ false) → set u ≡ true
      → (Q : I → Type 0) → ((y : I) → In y g → key y ≡ u → Q y) → Some Q rs
  set_from rs w free e Q so = set_by free e (Some Q rs) (λ y j z. some_in Q rs y (w y j) (so y j z))

  -- of a mark that isn't set there is no item
  pub unset_free : ((y : I) → In y g → set (key y) ≡ true) → set u ≡ false → Unused key u g
  unset_free held e = in_every (λ y. key y ≡ u → ⊥) g (λ y j z. true≢false (sym (held y j) ∙ ap set z ∙ e))

-- each of the items rs has exactly one of its own, and Q there; and what is so of each that is handed out
pub record Owned {I O : Type 0} (Own Q : I → O → Type 0) (U : O → Type 0) (rs : List I) (os : List O) : Type 0 where
  pub one : Every (λ f. ExactlyOne (Own f) os) rs
  pub there : Every (λ f. Every (λ o. Own f o → Q f o) os) rs
  pub each : Every U os

-- the parts gs of the items rs, each handed out as one of os: what is an item's own is what its part is handed out as
module _ {I O : Type 0} (P : List I → O → Type 0) (Own : I → O → Type 0) (rs : List I)
    (part_own : (f : I) (g : List I) (o : O) → P g o → Among rs g → In f g → Own f o)
    (gs : List (List I)) (os : List O) (whole : flat gs ≡ rs) (parts : Pairwise P gs os) where
  all_in : Among rs (flat gs)
  all_in = among_all rs (flat gs) whole

  -- some key of the items rises, and Q is what each has in its part
  pub owned : ((f : I) → In f rs → (g : List I) (o : O) → P g o → Among rs g → Own f o → In f g)
      → (key : I → ℕ) (low : ℕ) → Rising key low rs → (Q : I → O → Type 0) → ((g : List I) (o : O) → P g o → Every (λ f. Q f o) g)
      → (U : O → Type 0) → ((g : List I) (o : O) → P g o → Among rs g → U o) → Owned Own Q U rs os
  owned own_part key low r Q has U all = record {
    one = in_every _ rs (λ f i.
        once_in P rs (Own f) f (part_own f) (own_part f i) key gs os low parts all_in (rw whole r) (rw whole i));
    there = in_every _ rs (λ f i.
        each P rs (λ o. Own f o → Q f o) (λ g o p w h. every_in (λ x. Q x o) g f (has g o p) (own_part f i g o p w h)) gs os parts all_in);
    each = each P rs U all gs os parts all_in;
  }

  -- neighbours have one that is both's, or are neighbours in two
  pub both_own : (R S : I → I → Type 0) → Cut R S gs → (p f : I) → Neighbours p f rs → Some (λ o. Own p o × Own f o) os ⊎ S p f
  both_own R S cut p f n =
      let Both : List I → Type 0 = λ g. In p g × In f g in
      ⊎_elim
      (λ s. inl (some_out P rs (λ o. Own p o × Own f o) Both
      (λ g o q w i. (part_own p g o q w i.0, part_own f g o q w i.1)) gs os parts all_in s))
      (λ s. inr s)
      (beside R S p f gs cut (rw whole n))
