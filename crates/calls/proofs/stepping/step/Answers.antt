-- `calls::stepping::step`: a state is stepped, and what comes of it handed over.
-- Assumes nothing.
use Rattle.std.proofs.Common.{sym}
use Rattle.shapes.proofs.Values.{state_told, none_told}
use Rattle.calls.proofs.Handed.{step_unread, step_given}
use Rattle.calls.proofs.stepping.step.Goals as goal

pub returns-in_default-clause-is : goal.returns-in_default-clause-is
returns-in_default-clause-is c =
    step_unread c.args.state _ c.args.report c.args.r.now (none_told c.args.state _ (sym c.in_default.ensures))

pub returns-clause-is : goal.returns-clause-is
returns-clause-is c =
    let t = state_told c.args.state _ (sym c.in-Ok.ensures) in
    step_given c.args.state _ c.args.report c.args.r.now t.0 _ _ (rw t.1 at c.step-x.ensures.is) _ c.hand_over.ensures
