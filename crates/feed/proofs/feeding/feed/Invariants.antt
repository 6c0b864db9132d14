-- `feed::feeding::feed`: after each turn what is left to do comes to the same end, with one whole record fewer.
-- Assumes nothing.
use Rattle.std.proofs.Common.{◌≡◌}
use Rattle.reader.specs.Lent.{held, SameLent}
use Rattle.feed.specs.Feeding.{feed_all, desk, whole_from}
use Rattle.feed.proofs.feeding.feed.Given as goal

abbrev pub invariant-loop-fed : goal.invariant-loop-fed
invariant-loop-fed l =
    let i = l.initial in (feed_all l.bytes (desk i.fed (held i.lent)) ≡ feed_all l.bytes (desk l.fed (held l.lent))) × SameLent i.lent l.lent

abbrev pub decreases-loop-fed : goal.decreases-loop-fed
decreases-loop-fed l = whole_from l.bytes l.fed.at
