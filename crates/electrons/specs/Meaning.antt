-- What a raw byte means as counts, by what they were divided by, where that is known.
-- Assumes nothing.
use Rattle.std.specs.Prelude.{ℕ, Option, Some, None, Result, Ok, Err}
use Rattle.counts.specs.Codes.{range_of}
use Rattle.counts.specs.declared.Range.{Range}
use Rattle.counts.specs.declared.codes.Divided.{Divided}
use Rattle.cells.specs.declared.missing.Missing.{Missing}
use Rattle.cells.specs.declared.missing.Missing.TheVariants as missing
use Rattle.electrons.specs.declared.questions.Unknown.{Unknown}
use Rattle.electrons.specs.declared.questions.Unknown.TheVariants.{ScaleUnknown, Absent, NoSuchPlace}

abbrev pub counted : ℕ → Option Divided → Result Range Unknown
counted code (Some d) = Ok (range_of code d)
counted code None = Err ScaleUnknown

abbrev pub unknown_of : Missing → Unknown
unknown_of missing.Absent = Absent
unknown_of missing.NoSuchPlace = NoSuchPlace

abbrev pub meaning : Result ℕ Missing → Option Divided → Result Range Unknown
meaning (Ok code) s = counted code s
meaning (Err m) s = Err (unknown_of m)
