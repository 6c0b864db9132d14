-- One record, and two: the counts between them, and a cutting of them, each by itself, or both together.
-- Assumes nothing.
use mathlib.Core.Path.{◌≡◌, ap}
use mathlib.Core.List.{List, [], ◌∷◌, ◌++◌}
use mathlib.Core.Logic.{◌⊎◌, inl, inr}
use Prim.Native.Nat.{suc, ◌+◌, ◌-◌, ◌<◌}
use native.Mathlib.Omega.{arith}
use lib.ListN.{length}
use Rattle.clock.specs.Clock.{farthest}
use Rattle.gathering.specs.Lists.{Neighbours, flat, Linked, final, Across, Cut}
use Rattle.stream.specs.Sending.{Kept, Near}
use Rattle.gathering.proofs.Members.{of_both_lem}

heads : (x y p f : Kept) (xs : List Kept) → x ∷ y ∷ xs ≡ p ∷ f ∷ [] → (x ≡ p) × (y ≡ f)
heads x y p f xs e = (cc, cc)

pub near_one : (p : Kept) → Near (p ∷ [])
unfolding Neighbours
near_one p q f n = absurd n

pub near_two : (p f : Kept) → f.count - (p.count + 1) < farthest → Near (p ∷ f ∷ [])
unfolding Neighbours
near_two p f h q g (inl e) = of_both_lem (λ x y. y.count - (x.count + 1) < farthest) p f q g e h
near_two p f h q g (inr n) = absurd n

pub of_one : (R S : Kept → Kept → Type 0) (p : Kept) (gs : List (List Kept)) → flat gs ≡ p ∷ [] → Cut R S gs → gs ≡ (p ∷ []) ∷ []
unfolding flat Cut
of_one R S p [] e c = let y = ap length e in absurd (omega arith)
of_one R S p ([] ∷ gs) e c = absurd c
of_one R S p ((x ∷ []) ∷ []) e c = rw e
of_one R S p ((x ∷ []) ∷ ([] ∷ gs)) e c = absurd c.2
of_one R S p ((x ∷ []) ∷ ((y ∷ ys) ∷ gs)) e c = let h = ap length e in absurd (omega arith)
of_one R S p ((x ∷ y ∷ xs) ∷ gs) e c = let h = ap length e in absurd (omega arith)

module _ (R S : Kept → Kept → Type 0) (p f : Kept) where
  pub record Split (gs : List (List Kept)) : Type 0 where
    pub is : gs ≡ (p ∷ []) ∷ (f ∷ []) ∷ []
    pub related : S p f

  pub record Whole (gs : List (List Kept)) : Type 0 where
    pub is : gs ≡ (p ∷ f ∷ []) ∷ []
    pub related : R p f

  long : (xs : List Kept) → suc (suc (suc (length xs))) ≡ 2 → ⊥
  long xs e = omega arith

  pub of_two : (gs : List (List Kept)) → flat gs ≡ p ∷ f ∷ [] → Cut R S gs → Split gs ⊎ Whole gs
  unfolding flat Cut Linked Across final
  of_two [] e c = let y = ap length e in absurd (omega arith)
  of_two ([] ∷ gs) e c = absurd c
  of_two ((x ∷ []) ∷ []) e c = let y = ap length e in absurd (omega arith)
  of_two ((x ∷ []) ∷ ([] ∷ gs)) e c = absurd c.2
  of_two ((x ∷ []) ∷ ((y ∷ []) ∷ [])) e c =
      let h = heads x y p f [] e in
      inl (record { is = rw (h.0, h.1); related = of_both_lem S x y p f h c.1 })
  of_two ((x ∷ []) ∷ ((y ∷ []) ∷ ([] ∷ gs))) e c = absurd c.2.2
  of_two ((x ∷ []) ∷ ((y ∷ []) ∷ ((z ∷ zs) ∷ gs))) e c = absurd (long (zs ++ flat gs) (ap length e))
  of_two ((x ∷ []) ∷ ((y ∷ z ∷ zs) ∷ gs)) e c = absurd (long (zs ++ flat gs) (ap length e))
  of_two ((x ∷ y ∷ []) ∷ []) e c =
      let h = heads x y p f [] e in
      inr (record { is = rw (h.0, h.1); related = of_both_lem R x y p f h c.0.0 })
  of_two ((x ∷ y ∷ []) ∷ ([] ∷ gs)) e c = absurd c.2
  of_two ((x ∷ y ∷ []) ∷ ((z ∷ zs) ∷ gs)) e c = absurd (long (zs ++ flat gs) (ap length e))
  of_two ((x ∷ y ∷ z ∷ zs) ∷ gs) e c = absurd (long (zs ++ flat gs) (ap length e))
