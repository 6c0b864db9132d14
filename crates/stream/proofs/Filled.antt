-- The filled cells, counted: those whose frame is held are all filled.
-- Assumes nothing.
use mathlib.Core.Path.{◌≡◌, refl}
use mathlib.Core.Bool.{Bool, true, false, cond, ◌&&◌, or-true}
use mathlib.Core.List.{List, [], ◌∷◌}
use mathlib.Core.Logic.{inl, inr}
use Prim.Native.Nat.{ℕ, ◌<◌}
use native.Mathlib.Omega.{arith}
use lib.Dec.{eqb}
use lib.ListN.{get_or}
use borrow.Author.Tests.{eq-eqb}
use Rattle.prelude.specs.Every.{Every}
use Rattle.record.specs.Layout.{science_bytes}
use Rattle.carriage.specs.Carriage.{cells, carrier, byte_of}
use Rattle.cells.specs.Raw.{holds_cell}
use Rattle.gathering.specs.Lists.{Some, sum, total}
use Rattle.gathering.proofs.Totals.{total_same}
use Rattle.stream.specs.Running.{ClosedAccumulation}
use Rattle.stream.specs.Sending.{Kept}
use Rattle.stream.specs.Cutting.{type_of, round}
use Rattle.stream.specs.Filling.{packet}
use Rattle.stream.specs.Once.{Unmixed, has_byte, is_filled}
use Rattle.stream.proofs.Counting.{cells_in}

-- the cells filled with the bytes of records fs
abbrev pub filled_in : List Kept → ClosedAccumulation → ℕ
filled_in fs a = total (λ p. cond (is_filled fs a p) 1 0) cells

-- cell p, and the byte that a record has for it
abbrev cell_of : ClosedAccumulation → ℕ → ℕ
cell_of a p = get_or a.cells p 0

abbrev byte_for : Kept → ℕ → ℕ
byte_for f p = get_or (science_bytes (packet f)) (byte_of p) 0

has_byte_lem : (fs : List Kept) (a : ClosedAccumulation) (p n : ℕ)
    → Some (λ f. (type_of f ≡ carrier p) × (round f ≡ n) × (cell_of a p ≡ byte_for f p)) fs → has_byte fs a p ≡ true
unfolding Some has_byte
has_byte_lem [] a p n s = absurd s
has_byte_lem (f ∷ fs) a p n (inl e) = rw (eq-eqb (type_of f) (carrier p) e.0, eq-eqb (cell_of a p) (byte_for f p) e.2)
has_byte_lem (f ∷ fs) a p n (inr s) = rw (has_byte_lem fs a p n s) (or-true (eqb (type_of f) (carrier p) && eqb (cell_of a p) (byte_for f p)))

all_filled : (fs : List Kept) (a : ClosedAccumulation) → Unmixed fs a → filled_in fs a ≡ cells_in a.report.held
all_filled fs a u =
    total_same (λ p. cond (is_filled fs a p) 1 0) (λ p. cond (holds_cell a.report.held p) 1 0) cells
    (λ p l. go p l (holds_cell a.report.held p) refl)
  where
    go : (p : ℕ) → p < cells → (t : Bool) → holds_cell a.report.held p ≡ t → ◌≡◌ {A = ℕ} (cond (t && has_byte fs a p) 1 0) (cond t 1 0)
    go p l true e = rw (has_byte_lem fs a p u.of (u.cell p l e))
    go p l false e = refl

pub filled_held : (fs : List Kept) (os : List ClosedAccumulation) → Every (Unmixed fs) os → sum (filled_in fs) os ≡ sum (λ a. cells_in a.report.held) os
unfolding Every sum
filled_held fs [] h = refl
filled_held fs (a ∷ os) h = omega (arith, all_filled fs a h.0, filled_held fs os h.1)
