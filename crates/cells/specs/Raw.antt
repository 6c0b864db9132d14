-- What may be said of a cell (01, "Counts" and the last paragraph of "The packet").
-- Assumes nothing.
use Rattle.std.specs.Prelude.{ℕ, Bool, ◌&&◌, List, ltb, get_or, Result}
use Rattle.prelude.specs.Marks.{bit_set}
use Rattle.carriage.specs.Carriage.{types, cells, carrier}
use Rattle.cells.specs.Bytes.{askable_of, raw_of, RawIs}
use Rattle.cells.specs.Laying.{cells_size}
use Rattle.cells.specs.declared.missing.Missing.{Missing}

-- the frame that carries cell p is held when the mark of its type is set
abbrev pub holds_cell : ℕ → ℕ → Bool
holds_cell held p = bit_set held (carrier p)

-- cells of their size, and no "held mark above type 35"
abbrev pub askable : List ℕ → ℕ → Bool
askable = askable_of cells_size types

abbrev pub is_cell : List ℕ → ℕ → ℕ → Bool
is_cell c held p = askable c held && ltb p cells

abbrev pub cell_of : List ℕ → ℕ → ℕ → Result ℕ Missing
cell_of c held p = raw_of (is_cell c held p) (holds_cell held p) (get_or c p 0)

abbrev pub CellIs : List ℕ → ℕ → ℕ → Result ℕ Missing → Type 0
CellIs c held p = RawIs (is_cell c held p) (holds_cell held p) (get_or c p 0)
