-- Where a source begins, whether a byte or a file is still to come, and whether all could be read so far.
use Rattle.std.specs.Prelude.{ℕ, Bool, true, false, cond, Result, Ok, ⊤}
use Rattle.programs.specs.declared.input.Place.{Place}
use Rattle.programs.specs.declared.input.Place.TheVariants.{StandardInput, File, Argument, Ended}
use Rattle.programs.specs.declared.status.Failed.{Failed}

abbrev pub first_place : Bool → Place
first_place from_files = cond from_files (Argument 1) StandardInput

unfoldable pub goes_on : Place → Bool
goes_on StandardInput = true
goes_on (File argument file) = true
goes_on (Argument argument) = true
goes_on (Ended ended) = false

unfoldable pub all_read : Place → Result ⊤ Failed
all_read StandardInput = Ok tt
all_read (File argument file) = Ok tt
all_read (Argument argument) = Ok tt
all_read (Ended ended) = ended
