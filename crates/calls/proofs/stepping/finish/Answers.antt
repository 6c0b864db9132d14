-- `calls::stepping::finish`: a state is finished, and what comes of it handed over.
-- Assumes nothing.
use Rattle.std.proofs.Common.{sym}
use Rattle.shapes.proofs.Values.{state_told, none_told}
use Rattle.calls.proofs.Handed.{finish_unread, finish_given}
use Rattle.calls.proofs.stepping.finish.Goals as goal

pub returns-in_default-clause-is : goal.returns-in_default-clause-is
returns-in_default-clause-is c =
    finish_unread c.args.state _ c.args.closed (none_told c.args.state _ (sym c.in_default.ensures))

pub returns-clause-is : goal.returns-clause-is
returns-clause-is c =
    let t = state_told c.args.state _ (sym c.in-Ok.ensures) in
    finish_given c.args.state _ c.args.closed t.0 _ _ (rw t.1 at c.finish-x.ensures.is) _ c.hand_over_closed.ensures
