-- `feed::feeding::feed_one`: the record that is cut off is the one stepped, and what is told of it.
-- Assumes nothing.
use Rattle.feed.proofs.Turns.{one_is}
use Rattle.feed.proofs.feeding.feed_one.Goals as goal

pub returns-clause-is : goal.returns-clause-is
returns-clause-is c = one_is c.args.bytes.now c.args.at c.cut-r.ensures.content c.step-stepped.ensures.is c.told.ensures
