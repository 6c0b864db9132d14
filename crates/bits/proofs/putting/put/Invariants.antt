-- `bits::putting::put`: the loop has put the first k bytes.
-- Assumes nothing.
use Rattle.std.proofs.Common.{◌≡◌}
use Rattle.std.proofs.Math.Seq.{paste}
use Rattle.bits.specs.Numbers.{order_of}
use Rattle.bits.specs.Putting.{bytes_of}
use Rattle.bits.proofs.putting.put.Given as goal

abbrev pub invariant-loop-k : goal.invariant-loop-k
invariant-loop-k l = l.room ≡ paste l.fn.room l.at (bytes_of (order_of l.order) l.n l.x) l.k
