-- The answers about a raw byte: its words and byte follow.
-- Assumes nothing.
use mathlib.Core.Path.{◌≡◌}
use mathlib.Core.Bool.{Bool, true, false}
use Prim.Native.Nat.{ℕ}
use Rattle.std.specs.Prelude.{Ok, Err}
use Rattle.cells.specs.Bytes.{raw_of, RawIs}
use Rattle.cells.specs.Words.{answer_said}
use Rattle.cells.specs.declared.missing.Missing.TheVariants.{Absent, NoSuchPlace}

module _ (place held : Bool) (b : ℕ) where
  pub not_there : place ≡ false → RawIs place held b (Err NoSuchPlace)
  unfolding raw_of answer_said
  not_there e = record { is = rw e; words = rw e; byte = rw e }

  pub not_held : place ≡ true → held ≡ false → RawIs place held b (Err Absent)
  unfolding raw_of answer_said
  not_held e f = record { is = rw (e, f); words = rw (e, f); byte = rw (e, f) }

  pub is_there : place ≡ true → held ≡ true → RawIs place held b (Ok b)
  unfolding raw_of answer_said
  is_there e f = record { is = rw (e, f); words = rw (e, f); byte = rw (e, f) }
