-- `buffers::read_block`: the first k are read.
-- Assumes nothing.
use Rattle.std.proofs.Common.{◌≡◌, take, drop}
use Rattle.std.proofs.Math.Seq.{paste}
use Rattle.buffers.proofs.read_block.Given as goal

abbrev pub invariant-loop-k : goal.invariant-loop-k
invariant-loop-k g l = l.block ≡ paste l.initial.block 0 (take 16 (drop l.at l.from)) l.k
