-- What the exported functions of the electrons answer.
-- Assumes nothing.
use Rattle.std.specs.Prelude.{ℕ, cond, List, ◌≡◌, ltb, get_or}
use Rattle.carriage.specs.Carriage.{samples_in}
use Rattle.cells.specs.Laying.{laid_frame, layable}
use Rattle.cells.specs.Raw.{holds_cell, is_cell}
use Rattle.c_answers.specs.Answers.{nowhere, no_such_bin, ValueGiven}

-- the frame laid, or "no such place" and the cells as found
pub record LaidGiven (code : ℕ) (science c : List ℕ) (n : ℕ) (c' : List ℕ) : Type 0 where
  pub number : n ≡ cond (layable code science c) 0 nowhere
  pub written : c' ≡ cond (layable code science c) (laid_frame code science c) c

-- the byte of a cell, or the number lent as found
abbrev pub CellGiven : List ℕ → ℕ → ℕ → ℕ → ℕ → ℕ → Type 0
CellGiven c held p = ValueGiven (is_cell c held p) (holds_cell held p) (get_or c p 0)

-- how many samples a bin has, or LPMAG_NO_SUCH_BIN
abbrev pub bin_samples : ℕ → ℕ
bin_samples b = cond (ltb b 15) (samples_in b) no_such_bin
