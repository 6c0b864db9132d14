-- `feed::cutting::cut`: what is cut off near the end of the bytes, and before.
-- Assumes nothing.
use Rattle.std.proofs.Common.{arith}
use Rattle.feed.proofs.Cuts.{cut_short, cut_whole}
use Rattle.feed.proofs.cutting.cut.Goals as goal

pub returns-then-bytes-at-lt-SIZE : goal.returns-then-bytes-at-lt-SIZE
returns-then-bytes-at-lt-SIZE c =
    let a = c.args in
    cut_short a.bytes.now a.at a.bytes.ref_ptr (omega arith) c.if-bytes-at-lt-SIZE.true

pub returns : goal.returns
returns c = let a = c.args in cut_whole a.bytes.now a.at a.bytes.ref_ptr (omega arith)
