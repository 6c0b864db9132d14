-- `feed::feeding::feed`: a turn leaves the same to do, and the loop ends where one has something to tell or none is left.
-- Assumes nothing.
use Rattle.std.proofs.Common.{sym, ◌∙◌}
use Rattle.reader.proofs.Same.{same_again}
use Rattle.feed.proofs.Turns.{turn, fewer, ended_loud, ended_none}
use Rattle.feed.proofs.feeding.feed.Goals as goal

pub loop-fed-smaller : goal.loop-fed-smaller
loop-fed-smaller c = fewer c.args.bytes.now c.loop-fed.fed _ (sym c.loop-fed-test.ensures) c.feed_one-fed.ensures.is

pub loop-fed-preserved : goal.loop-fed-preserved
loop-fed-preserved c =
    let bytes = c.args.bytes.now in
    let on = turn bytes c.loop-fed.fed _ (sym c.loop-fed-test.ensures) c.feed_one-fed.ensures.is (sym c.if-is_quiet.ensures) in
    (c.loop-fed.invariant.0 ∙ on, same_again c.loop-fed.invariant.1 c.feed_one-fed.ensures.same_references)

pub returns-else-is_quiet-clause-is : goal.returns-else-is_quiet-clause-is
returns-else-is_quiet-clause-is c =
    ended_loud c.args.bytes.now _ (rw c.begin-fed.ensures at c.loop-fed.invariant.0) (sym c.if-is_quiet.ensures)

pub returns-after-loop-fed-clause-is : goal.returns-after-loop-fed-clause-is
returns-after-loop-fed-clause-is c =
    ended_none c.args.bytes.now _ (rw c.begin-fed.ensures at c.loop-fed.invariant.0) (sym c.loop-fed-test.ensures)
