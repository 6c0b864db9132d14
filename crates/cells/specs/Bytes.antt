-- A raw byte asked for (01, "Counts" and the last paragraph of "The packet"): "no such place", which is tested before "absent".
-- Assumes nothing.
use Rattle.std.specs.Prelude.{ℕ, ◌^◌, Bool, true, cond, ◌&&◌, List, ◌≡◌, eqb, ltb, length, Some, None, Result, Ok, Err}
use Rattle.std.specs.Result.{result_ok}
use Rattle.cells.specs.Words.{said, answer_said}
use Rattle.cells.specs.declared.missing.Missing.{Missing}
use Rattle.cells.specs.declared.missing.Missing.TheVariants.{Absent, NoSuchPlace}

-- a buffer of its size, and no held mark past those that there are
abbrev pub askable_of : ℕ → ℕ → List ℕ → ℕ → Bool
askable_of size marks c held = eqb (length c) size && ltb held (2 ^ marks)

-- by whether there is such a place, and whether what carries it is held
unfoldable pub raw_of : Bool → Bool → ℕ → Result ℕ Missing
raw_of place held b = cond place (cond held (Ok b) (Err Absent)) (Err NoSuchPlace)

-- one answer; and its words and byte, which follow
pub record RawIs (place held : Bool) (b : ℕ) (r : Result ℕ Missing) : Type 0 where
  pub is : r ≡ raw_of place held b
  pub words : answer_said r ≡ said place held true
  pub byte : result_ok r ≡ cond (place && held) (Some b) None
