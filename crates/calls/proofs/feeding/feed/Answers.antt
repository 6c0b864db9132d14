-- `calls::feeding::feed`: where rule 1 holds the records are fed, and what comes of it handed over.
-- Assumes nothing.
use Rattle.std.proofs.Common.{sym}
use Rattle.calls.proofs.Handed.{ready_told, unready_told, feed_unread, feed_given}
use Rattle.calls.proofs.feeding.feed.Goals as goal

pub returns-in_default-clause-is : goal.returns-in_default-clause-is
returns-in_default-clause-is c =
    feed_unread c.args.state _ c.args.fed c.args.bytes.now (unready_told c.args.state _ (sym (rw c.is_sized.ensures at c.in_default.ensures)))

pub returns-clause-is : goal.returns-clause-is
returns-clause-is c =
    let t = ready_told c.args.state _ _ (sym (rw c.is_sized.ensures at c.in-Some.ensures)) in
    feed_given c.args.state _ c.args.fed c.args.bytes.now t.0 _ _ (rw t.1 at c.feed.ensures.is) _ c.from.ensures
