-- The status as the system has it: 0 good, 1 not all could be read or written, 2 an unknown option.
use Rattle.std.specs.Prelude.{ℕ}
use Rattle.programs.specs.declared.status.Status.{Status}
use Rattle.programs.specs.declared.status.Status.TheVariants.{Done, Failed, WrongUse}

unfoldable pub number : Status → ℕ
number Done = 0
number Failed = 1
number WrongUse = 2
