-- The last arm of a match on a number is told that it is none of those before: so it is past all of them.
-- Assumes nothing.
use mathlib.Core.Path.{sym}
use mathlib.Core.List.{[], ◌∷◌}
use Prim.Native.Nat.{ℕ, zero, suc, ◌+◌, ◌≤◌}
use native.Mathlib.Omega.{arith}
use lib.Arith.{lt_of_le-ne}
use types.Run.{OneOf}

-- none of n arms, from a on
abbrev pub NoneOf : ℕ → ℕ → ℕ → Type 0
NoneOf a zero t = Unit
NoneOf a (suc n) t = NoneOf a n t × (OneOf ((a + n) ∷ []) t → ⊥)

pub past_arms : (a n t : ℕ) → a ≤ t → NoneOf a n t → a + n ≤ t
past_arms a zero t l h = omega arith
past_arms a (suc n) t l h = omega (arith, lt_of_le-ne (past_arms a n t l h.0) (λ e. h.1 (sym e)))
