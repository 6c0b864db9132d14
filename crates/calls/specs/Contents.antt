-- What is answered to the fields of a record, over C's structs.
-- Assumes nothing.
use Rattle.std.specs.Prelude.{ℕ, cond, List, ◌≡◌, eqb}
use Rattle.record.specs.Contents.{record_of}
use Rattle.record.specs.Rules.{broken}
use Rattle.shapes.specs.Fields.{fields_out}
use Rattle.shapes.specs.declared.fields.CFields.{CFields}
use Rattle.calls.specs.declared.contents.CContents.{CContents}

-- the record's number (01, "Numbers a refused record gets"); its fields where that is 0, else the struct as found
pub record FieldsGiven (c : CFields) (r : List ℕ) (y : CContents) : Type 0 where
  pub number : y.answer ≡ broken r
  pub written : y.fields ≡ cond (eqb (broken r) 0) (fields_out (record_of r)) c

-- an answer, and what stands behind the pointer after it
abbrev pub back_fields : ℕ → CFields → CContents
back_fields n c = record { answer = n; fields = c }
