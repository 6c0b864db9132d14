-- The cells whose frame is held number 83 for each type held.
-- Assumes nothing.
use mathlib.Core.Path.{◌≡◌, ap, ◌∙◌}
use mathlib.Core.Bool.{cond}
use Prim.Native.Nat.{ℕ, ◌+◌, ◌*◌, ◌/◌, ◌%◌, ◌^◌, ◌<◌}
use native.Mathlib.Omega.{arith}
use lib.Count.{ones}
use Rattle.carriage.specs.Carriage.{types, science_size, cells, place, carrier, byte_of}
use Rattle.carriage.proofs.EachCell.{place_cell, carrier_place, byte_place, once}
use Rattle.cells.specs.Raw.{holds_cell}
use Rattle.gathering.specs.Lists.{total}
use Rattle.gathering.proofs.Totals.{total_same, total_moved, mark_at, rows_marked}

-- the cell of byte q mod 83 of type q / 83, and back: each cell once
abbrev cell_at : ℕ → ℕ
cell_at q = place (q / 83) (q % 83)

abbrev byte_at : ℕ → ℕ
byte_at p = carrier p * 83 + byte_of p

byte_below : (p : ℕ) → p < cells → byte_at p < cells
byte_below p h = let k = once p h in omega arith

byte_cell : (q : ℕ) → q < cells → byte_at (cell_at q) ≡ q
byte_cell q h =
    let c = carrier_place (q / 83) (q % 83) (omega arith) (omega arith) in
    let b = byte_place (q / 83) (q % 83) (omega arith) (omega arith) in
    omega arith

cell_byte : (p : ℕ) → p < cells → cell_at (byte_at p) ≡ p
cell_byte p h =
    let k = once p h in
    let c : byte_at p / 83 ≡ carrier p = omega arith in
    let b : byte_at p % 83 ≡ byte_of p = omega arith in
    ap (λ u. place u (byte_at p % 83)) c ∙ ap (λ n. place (carrier p) n) b ∙ k.is

-- the cells of the types that are held
abbrev pub cells_in : ℕ → ℕ
cells_in held = total (λ p. cond (holds_cell held p) 1 0) cells

pub cells_held_lem : (held : ℕ) → held < 2 ^ types → cells_in held ≡ science_size * ones held
cells_held_lem held h = rw (
  total_moved cells cell_at byte_at (λ q l. place_cell (q / 83) (q % 83) (omega arith) (omega arith)) byte_below byte_cell cell_byte
      (λ p. cond (holds_cell held p) 1 0),
  total_same (λ q. cond (holds_cell held (cell_at q)) 1 0) (λ q. mark_at held (q / 83)) cells
      (λ q l. ap (mark_at held) (carrier_place (q / 83) (q % 83) (omega arith) (omega arith))),
  rows_marked 83 (omega arith) 36 held h,
)
