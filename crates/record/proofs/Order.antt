-- Refused with n exactly when rule n fails and those before it in the list hold; passes exactly when all hold.
-- Assumes nothing.
use mathlib.Core.Path.{◌≡◌, refl, sym, ap, ◌∙◌}
use mathlib.Core.Bool.{Bool, true, false, cond}
use mathlib.Core.List.{List, [], ◌∷◌}
use Prim.Native.Nat.{ℕ, ◌<◌}
use native.Mathlib.Omega.{arith}
use lib.Dec.{eqb}
use lib.ListN.{length}
use borrow.Author.Tests.{eqb-true, eqb-false, eq-eqb, ne_eqb}
use Rattle.std.specs.Prelude.{Result, Ok, Err, ⊤}
use Rattle.record.specs.Layout.{size}
use Rattle.prelude.specs.Rules.{Rule, first_broken, FirstBroken}
use Rattle.prelude.proofs.Order.{first_broken_lem}
use Rattle.record.specs.Refusals.{refusal_number, numbered, table}
use Rattle.record.specs.Rules.{rules, broken, verdict_of, refused_number, VerdictIs, Exactly}
use Rattle.record.specs.Rules.{size_holds}
use Rattle.record.specs.declared.refusal.Refusal.{Refusal}
use Rattle.record.specs.declared.refusal.Refusal.TheVariants.{Length}

-- the verdict as the rules' tests, one by one
unfoldable pub opened : ⊤
unfolding rules broken first_broken verdict_of numbered table
opened = tt

-- a verdict says the number that it was given
abbrev pub says : ℕ → Type 0
says n = refused_number (verdict_of n) ≡ n

pub one_says : (t : Bool) (n k : ℕ) → says n → says k → says (cond t k n)
one_says true n k p q = q
one_says false n k p q = p

abbrev each_says : List (Rule (List ℕ)) → Type 0
each_says [] = ⊤
each_says (x ∷ xs) = says x.number × each_says xs

passes_is : (n : ℕ) → n ≡ 0 → verdict_of n ≡ Ok tt
unfolding verdict_of
passes_is n e = rw (eq-eqb n 0 e)

pub passes_zero : (n : ℕ) → verdict_of n ≡ Ok tt → n ≡ 0
unfolding verdict_of
passes_zero n e = go (eqb n 0) refl e
  where
    go : (t : Bool) → eqb n 0 ≡ t → ◌≡◌ {A = Result ⊤ Refusal} (cond t (Ok tt) (Err (numbered n))) (Ok tt) → n ≡ 0
    go true t e = eqb-true n 0 t
    go false t e = cc

pub refused_is : (n : ℕ) (e : Refusal) → verdict_of n ≡ Err e → (numbered n ≡ e) × (0 < n)
unfolding verdict_of
refused_is n e h = go (eqb n 0) refl h
  where
    go : (t : Bool) → eqb n 0 ≡ t → ◌≡◌ {A = Result ⊤ Refusal} (cond t (Ok tt) (Err (numbered n))) (Err e) → (numbered n ≡ e) × (0 < n)
    go true t h = let y : ◌≡◌ {A = ℕ} 0 1 = cc in absurd (omega arith)
    go false t h = (cc, omega (arith, eqb-false n 0 t))

is_refused : (n : ℕ) → 0 < n → verdict_of n ≡ Err (numbered n)
unfolding verdict_of
is_refused n h = rw (ne_eqb n 0 (λ z. omega arith))

-- a number of the table is that of its row
pub row_says : (n : ℕ) → says n → 0 < n → refusal_number (numbered n) ≡ n
unfolding refused_number
row_says n k h = sym (ap refused_number (is_refused n h)) ∙ k

module _ (r : List ℕ) where
  -- the rules of 01
  first : FirstBroken rules r (broken r)
  unfolding rules broken
  first = first_broken_lem rules r refl

  first_says : (xs : List (Rule (List ℕ))) → each_says xs → says (first_broken xs r)
  unfolding first_broken verdict_of refused_number
  first_says [] k = refl
  first_says (x ∷ xs) k = one_says (x.holds r) x.number _ k.0 (first_says xs k.1)

  -- each rule's number is in 01's table
  pub broken_says : says (broken r)
  unfolding opened refused_number refusal_number
  broken_says = first_says rules (refl, (refl, (refl, (refl, (refl, (refl, (refl, (refl, (refl, (refl, tt))))))))))

  -- a verdict that is the rules' says their number
  pub verdict_is : (v : Result ⊤ Refusal) → v ≡ verdict_of (broken r) → VerdictIs r v
  verdict_is v e = record { is = e; number = ap refused_number e ∙ broken_says }

  pub exactly : Exactly r
  unfolding refused_number
  exactly = record {
    refused = λ n. (
      λ e.
          let k : broken r ≡ n = sym broken_says ∙ ap refused_number e.0 ∙ e.1 in
          (first.fails n).0 (k, omega (arith, k, (refused_is (broken r) (numbered n) e.0).1)),
      λ h.
          let k = (first.fails n).1 h in
          let v : verdict_of (broken r) ≡ Err (numbered n) = rw k.0 (is_refused n k.1) in
          (v, sym (ap refused_number v) ∙ broken_says ∙ k.0),
    );
    passes = (λ e. first.holds.0 (passes_zero (broken r) e), λ h. passes_is (broken r) (first.holds.1 h));
  }

  pub wrong_size : (length r ≡ size → ⊥) → Err Length ≡ verdict_of (broken r)
  unfolding opened size_holds
  wrong_size h = rw (ne_eqb (length r) size h)
