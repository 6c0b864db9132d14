-- `calls::frames::field`: each answer of `majors` has its number.
-- Assumes nothing.
use Rattle.calls.proofs.Asked.{nominal_told}
use Rattle.calls.proofs.frames.field.Goals as goal

pub returns : goal.returns
returns c =
    nominal_told c.args.major c.args.samples.now c.args.slot c.args.number _ _ _ _ (rw c.from.ensures at c.field.ensures) c.hand.ensures
