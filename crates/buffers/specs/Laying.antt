-- A list with another laid over it from a place on.
-- Assumes nothing.
use Rattle.std.specs.Prelude.{ℕ, ◌+◌, Bool, cond, List, ◌++◌, leb, length, take, drop}

-- d with s over it from place `at` on
unfoldable pub patch {ℓ} : {A : Type ℓ} → List A → ℕ → List A → List A
patch d at s = take at d ++ (s ++ drop (at + length s) d)

-- n places from place `at` on, among so many
abbrev pub has_room : ℕ → ℕ → ℕ → Bool
has_room size at n = leb (at + n) size

-- d with s over it from place `at` on where it lies wholly inside; else d as it was
abbrev pub laid {ℓ} : {A : Type ℓ} → List A → List A → ℕ → List A
laid s d at = cond (has_room (length d) at (length s)) (patch d at s) d
