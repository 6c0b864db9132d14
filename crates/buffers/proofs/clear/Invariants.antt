-- `buffers::clear`: the loop has cleared the first of them; the rest is as found.
-- Assumes nothing.
use Rattle.std.proofs.Common.{◌≡◌, ◌++◌, drop, replicate}
use Rattle.buffers.proofs.clear.Given as goal

abbrev pub invariant-loop-x : goal.invariant-loop-x
invariant-loop-x g l = l.x-items ≡ replicate l.x-index l.fn.zero ++ drop l.x-index l.fn.buffer
