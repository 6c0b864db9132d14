-- The items among others that pass a test.
-- Assumes nothing.
use mathlib.Core.Path.{◌≡◌, refl}
use mathlib.Core.Bool.{Bool, true, false, cond}
use mathlib.Core.List.{List, [], ◌∷◌, ◌++◌}
use Prim.Native.Nat.{ℕ, ◌+◌}
use native.Mathlib.Omega.{arith}
use Rattle.prelude.proofs.Conds.{cases}
use Rattle.prelude.specs.Every.{Every}
use Rattle.gathering.specs.Lists.{those}
use Rattle.gathering.specs.Laying.{put_all, Rising}
use Rattle.gathering.proofs.Laying.{rising_down}

module _ {I : Type 0} (p : I → Bool) where
  pub those_append : (g h : List I) → those p (g ++ h) ≡ those p g ++ those p h
  unfolding those
  those_append [] h = refl
  those_append (x ∷ g) h = go (p x) (those_append g h)
    where
      go : (t : Bool) → those p (g ++ h) ≡ those p g ++ those p h
          → cond t (x ∷ those p (g ++ h)) (those p (g ++ h)) ≡ cond t (x ∷ those p g) (those p g) ++ those p h
      go true e = cc
      go false e = e

  -- what each has, each of them has
  pub every_those : (P : I → Type 0) (xs : List I) → Every P xs → Every P (those p xs)
  unfolding Every those
  every_those P [] h = tt
  every_those P (x ∷ xs) h =
      cases (p x)
      (λ e. rw e (h.0, (every_those P xs h.1)))
      (λ e. rw e (every_those P xs h.1))

  -- keys that rise, rise among them
  pub rising_those : (key : I → ℕ) (xs : List I) (low : ℕ) → Rising key low xs → Rising key low (those p xs)
  unfolding Rising those
  rising_those key [] low r = tt
  rising_those key (x ∷ xs) low r =
      cases (p x)
      (λ e. rw e (r.0, (rising_those key xs (key x + 1) r.1)))
      (λ e. rw e (rising_down key (those p xs) low (key x + 1) (omega arith) (rising_those key xs (key x + 1) r.1)))

  -- where the others change nothing, they are what is put
  pub put_those : {B : Type 0} (put : I → B → B) (xs : List I) (b : B) → put_all (λ x c. cond (p x) (put x c) c) b xs ≡ put_all put b (those p xs)
  unfolding put_all those
  put_those put [] b = refl
  put_those {B = B} put (x ∷ xs) b = go (p x) (put_those put xs)
    where
      go : (t : Bool) → ((c : B) → put_all (λ x c. cond (p x) (put x c) c) c xs ≡ put_all put c (those p xs))
          → put_all (λ x c. cond (p x) (put x c) c) (cond t (put x b) b) xs ≡ put_all put b (cond t (x ∷ those p xs) (those p xs))
      go true ih = ih (put x b)
      go false ih = ih b

-- all pass
pub those_all : {I : Type 0} (xs : List I) → those (λ x. true) xs ≡ xs
unfolding those
those_all [] = refl
those_all (x ∷ xs) = rw (those_all xs)
