-- `buffers::read_block`: a turn reads one more.
-- Assumes nothing.
use Rattle.std.proofs.Common.{◌∙◌, List, sym, ap, set, take, drop, arith}
use Rattle.std.proofs.Math.Seq.{get_or-take, get_or-drop, length-take-le}
use Rattle.std.proofs.Math.ListN.{length-drop}
use Rattle.buffers.proofs.Blocks.{read_more}
use Rattle.buffers.proofs.read_block.Goals as goal

pub loop-k-preserved : goal.loop-k-preserved
loop-k-preserved g c =
    let b = drop c.args.at c.args.from.now in
    let s = take 16 b in
    let x = c.index-from-at-in-loop-k.result in
    let l = length-take-le 16 b (omega (arith, length-drop c.args.at c.args.from.now)) in
    let f = c.index-from-at-in-loop-k.is in
    let h = get_or-take 16 b c.loop-k.k x (omega arith) ∙ get_or-drop c.args.at c.args.from.now c.loop-k.k x in
    ap (λ (d : List g.row.T.Denot). set d c.loop-k.k x) c.loop-k.invariant
    ∙ ap (set _ c.loop-k.k) (f ∙ sym h)
    ∙ read_more _ s c.loop-k.k x (omega arith) (omega (arith, l))
