-- What is handed out, told apart by its place and by how many items stand before it.
-- Assumes nothing.
use Rattle.std.specs.Prelude.{◌≡◌, List, [], ◌∷◌, ℕ, zero, suc, ◌+◌, ◌≤◌, ◌<◌}

-- the element at place i
unfoldable pub At : {A : Type 0} → ℕ → A → List A → Type 0
At i f [] = ⊥
At zero f (x ∷ xs) = x ≡ f
At (suc i) f (x ∷ xs) = At i f xs

-- one of those handed out, its place among them, and the items in those before it
pub record Placed (O : Type 0) : Type 0 where
  pub place : ℕ
  pub before : ℕ
  pub thing : O

-- all that is handed out, `items` telling how many items are in one, with n of them and m items before
unfoldable pub placed : {O : Type 0} → (O → ℕ) → ℕ → ℕ → List O → List (Placed O)
placed items n m [] = []
placed items n m (o ∷ os) = record { place = n; before = m; thing = o } ∷ placed items (n + 1) (m + items o) os

-- item number i is in what was handed out; and the next one too
abbrev pub HasItem : {O : Type 0} → (O → ℕ) → ℕ → Placed O → Type 0
HasItem items i e = (e.before ≤ i) × (i < e.before + items e.thing)

abbrev pub HasBoth : {O : Type 0} → (O → ℕ) → ℕ → Placed O → Type 0
HasBoth items i e = HasItem items i e × HasItem items (suc i) e
