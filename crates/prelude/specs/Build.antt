-- The list of what a function gives at 0, 1, and so on.
-- Assumes nothing.
use Rattle.std.specs.Prelude.{ℕ, zero, suc, List, [], ◌∷◌, ◌++◌}

-- f 0, f 1, .. , f (n - 1)
unfoldable pub build {ℓ} : {A : Type ℓ} → (ℕ → A) → ℕ → List A
build f zero = []
build f (suc n) = build f n ++ (f n ∷ [])
