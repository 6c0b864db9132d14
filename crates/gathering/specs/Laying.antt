-- Items put one after another into what is there, each into the places of its own key.
-- Assumes nothing.
use Rattle.std.specs.Prelude.{◌≡◌, List, [], ◌∷◌, ℕ, ◌+◌, ◌≤◌}
use Rattle.prelude.specs.Every.{Every}

unfoldable pub put_all : {I B : Type 0} → (I → B → B) → B → List I → B
put_all put b [] = b
put_all put b (x ∷ xs) = put_all put (put x b) xs

-- keys from low on, each above the one before
unfoldable pub Rising : {I : Type 0} → (I → ℕ) → ℕ → List I → Type 0
Rising key low [] = Unit {0}
Rising key low (x ∷ xs) = (low ≤ key x) × Rising key (key x + 1) xs

-- a key that none of them has
abbrev pub Unused : {I : Type 0} → (I → ℕ) → ℕ → List I → Type 0
Unused key u xs = Every (λ x. key x ≡ u → ⊥) xs

-- A table of places: `look b u` is what stands in b in a place of the key u, `value x` what an item x puts there. Items that are
-- Good are put where b is Fit for keys from low on: then x has its value in its own place, and the places of other keys that
-- are Keys stay as they are.
pub record Table {I B C : Type 0} (key : I → ℕ) (put : I → B → B) (look : B → ℕ → C) (value : I → C)
    (Good : I → Type 0) (Key : ℕ → Type 0) (Fit : ℕ → B → Type 0) : Type 0 where
  pub keyed : (x : I) → Good x → Key (key x)
  pub fits : (x : I) (b : B) (low : ℕ) → Good x → low ≤ key x → Fit low b → Fit (key x + 1) (put x b)
  pub own : (x : I) (b : B) (low : ℕ) → Good x → low ≤ key x → Fit low b → look (put x b) (key x) ≡ value x
  pub other : (x : I) (b : B) (low u : ℕ) → Good x → low ≤ key x → Fit low b → Key u → (key x ≡ u → ⊥) → look (put x b) u ≡ look b u
