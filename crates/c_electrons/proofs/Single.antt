-- One answer, and one content of what was lent: any two outcomes that a promise allows are equal. (The questions promise a
-- range: `one_range` of c_answers is their law.)
-- Assumes nothing.
use mathlib.Core.Path.{◌≡◌}
use mathlib.Core.List.{List}
use Prim.Native.Nat.{ℕ}
use lib.ListN.{get_or}
use Rattle.prelude.proofs.Single.{one}
use Rattle.cells.specs.Raw.{holds_cell, is_cell}
use Rattle.c_answers.proofs.Single.{one_value}
use Rattle.c_electrons.specs.Electrons.{LaidGiven, CellGiven}

pub one_laid : (code : ℕ) (sc c : List ℕ) (k n : ℕ) (a b : List ℕ)
    → LaidGiven code sc c k a → LaidGiven code sc c n b → (k ≡ n) × (a ≡ b)
one_laid code sc c k n a b x y = (one x.number y.number, one x.written y.written)

pub one_byte : (c : List ℕ) (held p old k n a b : ℕ) → CellGiven c held p old k a → CellGiven c held p old n b → (k ≡ n) × (a ≡ b)
one_byte c held p = one_value (is_cell c held p) (holds_cell held p) (get_or c p 0)
