-- The words of an answer (01, "Counts" and the last paragraph of "The packet").
-- Assumes nothing.
use Rattle.std.specs.Prelude.{Bool, cond, Result, Ok, Err}
use Rattle.cells.specs.declared.missing.Missing.{Missing}
use Rattle.cells.specs.declared.missing.Missing.TheVariants as missing

-- 01's words, in the order in which they are tested
pub data Words : Type 0 where
  no_such_place : Words
  absent : Words
  scale_unknown : Words
  given : Words

abbrev pub said : Bool → Bool → Bool → Words
said place held known = cond place (cond held (cond known given scale_unknown) absent) no_such_place

-- the words of an answer that gives a value, or says why there is none
abbrev pub missing_said : Missing → Words
missing_said missing.Absent = absent
missing_said missing.NoSuchPlace = no_such_place

unfoldable pub answer_said : {A : Type 0} → Result A Missing → Words
answer_said (Ok v) = given
answer_said (Err w) = missing_said w
