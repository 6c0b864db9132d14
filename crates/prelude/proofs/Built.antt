-- Laws of `build`, over any element type.
-- Assumes nothing.
use mathlib.Core.Path.{◌≡◌, refl, sym, ap, ◌∙◌}
use mathlib.Core.Bool.{Bool, true, false}
use mathlib.Core.List.{List, [], ◌∷◌, ◌++◌, append-nil}
use Prim.Native.Nat.{ℕ, zero, suc, ◌+◌, ◌<◌}
use native.Mathlib.Numerals.{add-one}
use native.Mathlib.Omega.{arith}
use lib.Arith.{lt_of_le-ne}
use lib.Dec.{eqb}
use lib.ListN.{length, get_or, set, drop, length-append, get_or-append}
use lib.Seq.{drop-cons, drop-length, set_at, append_snoc, get_or_at}
use borrow.Author.Tests.{eqb-true, eqb-false}
use Rattle.prelude.specs.Build.{build}

module _ {ℓ} {A : Type ℓ} (f : ℕ → A) where
  pub length_build : (n : ℕ) → length (build f n) ≡ n
  unfolding build
  length_build zero = refl
  length_build (suc n) = simp (length-append, length_build n) (omega arith)

  pub get_d_build : (n k : ℕ) (d : A) → k < n → get_or (build f n) k d ≡ f k
  unfolding build
  get_d_build zero k d h = absurd (omega arith)
  get_d_build (suc n) k d h = go (eqb k n) refl (get_d_build n k d)
    where
      go : (t : Bool) → eqb k n ≡ t → (k < n → get_or (build f n) k d ≡ f k) → get_or (build f n ++ (f n ∷ [])) k d ≡ f k
      go true t r = let e = eqb-true k n t in get_or_at (build f n) (f n) [] d k (length_build n ∙ sym e) ∙ ap f (sym e)
      go false t r =
          let l : k < n = lt_of_le-ne (omega arith) (eqb-false k n t) in
          get_or-append (build f n) (f n ∷ []) d k (rw (length_build n) l) ∙ r l

  -- nothing built yet, and a store after what was built, over any list that is filled so
  pub build_none : (d : List A) → d ≡ build f 0 ++ drop 0 d
  unfolding build
  build_none d = refl

  pub build_more : (n : ℕ) (d : List A) → n < length d → set (build f n ++ drop n d) n (f n) ≡ build f (n + 1) ++ drop (n + 1) d
  unfolding build
  build_more n d h =
      ap (λ (x : List A). set (build f n ++ x) n (f n)) (drop-cons d n (f n) h)
      ∙ set_at (build f n) (get_or d n (f n)) (drop (suc n) d) (f n) n (length_build n)
      ∙ rw add-one (sym (append_snoc (build f n) (f n) (drop (suc n) d)))

  pub build_all : (n : ℕ) (d : List A) → n ≡ length d → build f n ++ drop n d ≡ build f n
  build_all n d e = rw (e, drop-length d) (append-nil (build f (length d)))

  -- what is built depends on the function below n only
  pub build_same : (g : ℕ → A) (n : ℕ) → ((k : ℕ) → k < n → f k ≡ g k) → build f n ≡ build g n
  unfolding build
  build_same g zero h = refl
  build_same g (suc n) h = rw (build_same g n (λ k l. h k (omega arith)), h n (omega arith))
