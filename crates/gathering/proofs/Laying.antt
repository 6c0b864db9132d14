-- Items of rising keys put one after another: each has its value in its own places, and the places of no item stay as they were.
-- Assumes nothing.
use mathlib.Core.Path.{◌≡◌, refl, subst, ◌∙◌}
use mathlib.Core.List.{List, [], ◌∷◌, ◌++◌}
use mathlib.Core.Logic.{inl, inr}
use Prim.Native.Nat.{ℕ, ◌+◌, ◌<◌, ◌≤◌}
use native.Mathlib.Omega.{arith}
use Rattle.prelude.specs.Every.{Every}
use Rattle.gathering.specs.Lists.{Some}
use Rattle.gathering.specs.Laying.{put_all, Rising, Unused, Table}

module _ {I : Type 0} (key : I → ℕ) where
  pub rising_down : (xs : List I) (low low' : ℕ) → low ≤ low' → Rising key low' xs → Rising key low xs
  unfolding Rising
  rising_down [] low low' l r = tt
  rising_down (x ∷ xs) low low' l r = (omega arith, r.1)

  pub free_below : (xs : List I) (low u : ℕ) → u < low → Rising key low xs → Unused key u xs
  unfolding Rising Every
  free_below [] low u h r = tt
  free_below (x ∷ xs) low u h r = (λ e. omega arith, free_below xs (key x + 1) u (omega arith) r.1)

-- one more put
pub put_more : {I B : Type 0} (put : I → B → B) (g : List I) (b : B) (x : I) → put_all put b (g ++ (x ∷ [])) ≡ put x (put_all put b g)
unfolding put_all
put_more put [] b x = refl
put_more put (y ∷ g) b x = put_more put g (put y b) x

-- a part of what is there, into which items are put by themselves
pub put_part : {I B C : Type 0} (part : B → C) (put : I → B → B) (putPart : I → C → C) → ((x : I) (b : B) → part (put x b) ≡ putPart x (part b))
    → (xs : List I) (b : B) → part (put_all put b xs) ≡ put_all putPart (part b) xs
unfolding put_all
put_part part put putPart is [] b = refl
put_part part put putPart is (x ∷ xs) b = rw (is x b) at (put_part part put putPart is xs (put x b))

module _ {I B C : Type 0} {key : I → ℕ} {put : I → B → B} {look : B → ℕ → C} {value : I → C}
    {Good : I → Type 0} {Key : ℕ → Type 0} {Fit : ℕ → B → Type 0} (t : Table key put look value Good Key Fit) where
  -- what is there stays Fit
  pub all_fit : (xs : List I) (b : B) (low n : ℕ) → ((c : B) (l : ℕ) → l ≤ n → Fit l c → Fit n c) → low ≤ n → Every (λ x. key x < n) xs
      → Every Good xs → Rising key low xs → Fit low b → Fit n (put_all put b xs)
  unfolding put_all Every Rising
  all_fit [] b low n wider l u g r f = wider b low l f
  all_fit (x ∷ xs) b low n wider l u g r f =
      all_fit xs (put x b) (key x + 1) n wider (omega arith) u.1 g.1 r.1 (t.fits x b low g.0 r.0 f)

  -- a key that no item has keeps what stood there
  pub stays : (xs : List I) (b : B) (low u : ℕ) → Every Good xs → Rising key low xs → Fit low b → Key u → Unused key u xs
      → look (put_all put b xs) u ≡ look b u
  unfolding put_all Every Rising
  stays [] b low u g r f k n = refl
  stays (x ∷ xs) b low u g r f k n =
      stays xs (put x b) (key x + 1) u g.1 r.1 (t.fits x b low g.0 r.0 f) k n.1
      ∙ t.other x b low u g.0 r.0 f k n.0

  -- each item that is put stands in its key's place
  pub stand : (xs : List I) (b : B) (low : ℕ) → Every Good xs → Rising key low xs → Fit low b
      → (x : I) → Some (λ y. y ≡ x) xs → look (put_all put b xs) (key x) ≡ value x
  unfolding put_all Every Rising Some
  stand [] b low g r f x i = absurd i
  stand (y ∷ xs) b low g r f x (inl e) =
      let free = free_below key xs (key y + 1) (key y) (omega arith) r.1 in
      let own = stays xs (put y b) (key y + 1) (key y) g.1 r.1 (t.fits y b low g.0 r.0 f) (t.keyed y g.0) free in
      subst (λ z. look (put_all put (put y b) xs) (key z) ≡ value z) e (own ∙ t.own y b low g.0 r.0 f)
  stand (y ∷ xs) b low g r f x (inr i) = stand xs (put y b) (key y + 1) g.1 r.1 (t.fits y b low g.0 r.0 f) x i
