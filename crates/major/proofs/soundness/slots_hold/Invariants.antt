-- `major::soundness::slots_hold`: the loop has tested the first i slots.
-- Assumes nothing.
use Rattle.std.proofs.Common.{◌≡◌}
use Rattle.prelude.specs.Upto.{upto}
use Rattle.major.specs.Soundness.{slot_holds}
use Rattle.major.proofs.soundness.slots_hold.Given as goal

abbrev pub invariant-loop-i : goal.invariant-loop-i
invariant-loop-i l = l.all ≡ upto (slot_holds l.m) l.i
