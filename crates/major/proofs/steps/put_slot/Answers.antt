-- `major::steps::put_slot`: a mark fits beside those below it.
-- Assumes nothing.
use Rattle.std.proofs.Common.{arith}
use Rattle.major.proofs.Parts.{mag_fits}
use Rattle.major.proofs.steps.put_slot.Goals as goal

pub overflow_add-n-in-Some : goal.overflow_add-n-in-Some
overflow_add-n-in-Some c = record { fits = mag_fits c.args.m c.args.d (omega arith) c.requires.1 }
