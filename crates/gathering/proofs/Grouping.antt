-- What a gatherer hands out is a cutting of the items that it takes in, in order, each once.
-- Assumes nothing.
use mathlib.Core.Path.{◌≡◌, refl, subst, ◌∙◌}
use mathlib.Core.Bool.{Bool, true, false}
use mathlib.Core.List.{List, [], ◌∷◌, ◌++◌, map, append-nil, append_assoc}
use Prim.Native.Nat.{ℕ, ◌+◌, ◌<◌}
use native.Mathlib.Omega.{arith}
use Rattle.prelude.specs.Every.{Every}
use Rattle.prelude.proofs.Every.{every_apart}
use Rattle.gathering.specs.Lists.{Pairwise, flat, those, Linked, final, Across, Cut}
use Rattle.gathering.specs.Laying.{Rising}
use Rattle.gathering.specs.Gathering.{Gatherer, gather, taken_by, Grouped, Gathers}

-- items taken in as they are
pub map_same : {A : Type 0} (xs : List A) → map (λ x. x) xs ≡ xs
map_same [] = refl
map_same (x ∷ xs) = rw (map_same xs)

-- what neighbours share, all share
pub all_share : {J : Type 0} (key : J → ℕ) (R : J → J → Type 0) → ((p f : J) → R p f → key f ≡ key p) → (fs : List J) (p : J)
    → Linked R p fs → Every (λ f. key f ≡ key p) (p ∷ fs)
unfolding Linked Every
all_share key R same [] p h = (refl, tt)
all_share key R same (f ∷ fs) p h = (refl, subst (λ n. Every (λ x. key x ≡ n) (f ∷ fs)) (same p f h.0) (all_share key R same fs f h.1))

-- where a key rises from each to the next, it rises throughout
pub rising_links : {J : Type 0} (key : J → ℕ) (R : J → J → Type 0) → ((p f : J) → R p f → key p < key f) → (fs : List J) (p : J)
    → Linked R p fs → Rising key (key p + 1) fs
unfolding Linked Rising
rising_links key R up [] p h = tt
rising_links key R up (f ∷ fs) p h = (omega (arith, up p f h.0), rising_links key R up fs f h.1)

module _ {J O : Type 0} (R S : J → J → Type 0) (out : List J → O) where
  -- what comes of the items ys, with h ∷ t open and p the last of them
  record Told (h : J) (t : List J) (p : J) (ys : List J) (handed : List O) : Type 0 where
    tail : List J
    rest : List (List J)
    is : handed ≡ out (h ∷ (t ++ tail)) ∷ map out rest
    whole : tail ++ flat rest ≡ ys
    linked : Linked R p tail
    across : Across S (final p tail) rest
    cut : Cut R S rest

  module _ (h : J) (t : List J) (p : J) where
    told_end : Told h t p [] (out (h ∷ t) ∷ [])
    unfolding Linked Across Cut flat
    told_end = record { tail = []; rest = []; is = rw append-nil refl; whole = refl; linked = tt; across = tt; cut = tt }

    module _ (y : J) (ys : List J) (handed : List O) where
      told_joined : R p y → Told h (t ++ (y ∷ [])) y ys handed → Told h t p (y ∷ ys) handed
      unfolding Linked final
      told_joined n r = record {
        tail = y ∷ r.tail;
        rest = r.rest;
        is = r.is ∙ rw append_assoc;
        whole = rw r.whole;
        linked = (n, r.linked);
        across = r.across;
        cut = r.cut;
      }

      told_opened : S p y → Told y [] y ys handed → Told h t p (y ∷ ys) (out (h ∷ t) ∷ handed)
      unfolding Linked final Across Cut flat
      told_opened n r = record {
        tail = [];
        rest = (y ∷ r.tail) ∷ r.rest;
        is = rw append-nil (rw r.is);
        whole = rw r.whole;
        linked = tt;
        across = n;
        cut = (r.linked, r.across, r.cut);
      }

  grouped_none : Grouped R S out [] []
  unfolding Cut flat
  grouped_none = record { groups = []; is = refl; whole = refl; cut = tt }

  grouped : (y : J) (ys : List J) (handed : List O) → Told y [] y ys handed → Grouped R S out (y ∷ ys) handed
  unfolding Cut flat
  grouped y ys handed r = record {
    groups = (y ∷ r.tail) ∷ r.rest;
    is = r.is;
    whole = rw r.whole;
    cut = (r.linked, r.across, r.cut);
  }

  -- what is so of each group that is handed out
  pub each_out : (Q : J → Type 0) (P : List J → O → Type 0) → ((x : J) (xs : List J) → Every Q (x ∷ xs) → Linked R x xs → P (x ∷ xs) (out (x ∷ xs)))
      → (gs : List (List J)) → Cut R S gs → Every Q (flat gs) → Pairwise P gs (map out gs)
  unfolding Cut flat Pairwise
  each_out Q P each [] c q = tt
  each_out Q P each ([] ∷ gs) c q = absurd c
  each_out Q P each ((x ∷ xs) ∷ gs) c q =
      let r = every_apart Q (x ∷ xs) (flat gs) q in
      (each x xs r.0 c.0, each_out Q P each gs c.2 r.1)

module _ {I J G O : Type 0} (w : Gatherer I J G O) (R S : J → J → Type 0) (out : List J → O)
    (Shut : G → List I → Type 0) (Open : J → List J → J → G → List I → Type 0) (a : Gathers w R S out Shut Open) where
  abbrev From : J → List J → J → G → List I → Type 0
  From h t p g xs = Told R S out h t p (taken_by w xs) (gather w g xs)

  told : (xs : List I) (h : J) (t : List J) (p : J) (g : G) → Open h t p g xs → From h t p g xs
  unfolding gather those
  told [] h t p g o = rw (a.closes h t p g [] o) (told_end R S out h t p)
  told (x ∷ xs) h t p g o = go (w.takes x) (w.goes_on g (w.item x)) refl refl (told xs)
    where
      go : (b c : Bool) → w.takes x ≡ b → w.goes_on g (w.item x) ≡ c
          → ((h : J) (t : List J) (p : J) (g : G) → Open h t p g xs → From h t p g xs) → From h t p g (x ∷ xs)
      go false c e f ih = rw e (ih h t p (w.passes x g) (a.passes h t p g x xs e o))
      go true true e f ih =
          let n = a.joins h t p g x xs e f o in
          rw (e, f) (told_joined R S out h t p (w.item x) (taken_by w xs) _ n.0 (ih h (t ++ (w.item x ∷ [])) (w.item x) _ n.1))
      go true false e f ih =
          let n = a.parts h t p g x xs e f o in
          rw (e, f, a.closes h t p g (x ∷ xs) o) (told_opened R S out h t p (w.item x) (taken_by w xs) _ n.0 (ih (w.item x) [] (w.item x) _ n.1))

  -- the law: from nothing open on
  pub gathered : (xs : List I) (g : G) → Shut g xs → Grouped R S out (taken_by w xs) (gather w g xs)
  unfolding gather those
  gathered [] g s = rw (a.shut_closes g [] s) (grouped_none R S out)
  gathered (x ∷ xs) g s = go (w.takes x) refl (gathered xs (w.passes x g))
    where
      go : (b : Bool) → w.takes x ≡ b → (Shut (w.passes x g) xs → Grouped R S out (taken_by w xs) (gather w (w.passes x g) xs))
          → Grouped R S out (taken_by w (x ∷ xs)) (gather w g (x ∷ xs))
      go false e ih = rw e (ih (a.shut_passes g x xs e s))
      go true e ih =
          let n = a.shut_opens g x xs e s in
          rw (e, n.0, a.shut_closes g (x ∷ xs) s) (grouped R S out (w.item x) (taken_by w xs) _ (told xs (w.item x) [] (w.item x) _ n.1))
