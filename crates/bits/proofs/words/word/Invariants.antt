-- `bits::words::word`: the loop has read the first i bytes.
-- Assumes nothing.
use Rattle.std.proofs.Common.{◌≡◌}
use Rattle.bits.proofs.WordBytes.{first}
use Rattle.bits.proofs.words.word.Given as goal

abbrev pub invariant-loop-y : goal.invariant-loop-y
invariant-loop-y l = l.x ≡ first l.b l.at l.y-index
