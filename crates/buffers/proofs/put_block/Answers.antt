-- `buffers::put_block`: a turn puts one more; at the end all are put.
-- Assumes nothing.
use Rattle.std.proofs.Common.{arith}
use Rattle.buffers.proofs.Blocks.{put_more, put_all}
use Rattle.buffers.proofs.put_block.Goals as goal

pub loop-k-preserved : goal.loop-k-preserved
loop-k-preserved g c =
    let e = put_more c.args.to.now c.args.at c.args.block c.loop-k.k c.x-item.result (omega arith) (omega arith) in
    cc

pub returns : goal.returns
returns g c = let e = put_all c.args.to.now c.args.at c.args.block c.loop-k.k (omega arith) in cc
