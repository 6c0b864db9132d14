-- `buffers::lay`: a block more is laid, or one element; at the end all are.
-- Assumes nothing.
use Rattle.std.proofs.Common.{◌≡◌, ◌+◌, ◌*◌, ap, not, length, arith}
use Rattle.buffers.proofs.Blocks.{put_more, put_all, put_block_more}
use Rattle.buffers.proofs.Patches.{has_room_lem, laid_in}
use Rattle.buffers.proofs.lay.Goals as goal

pub loop-i-preserved : goal.loop-i-preserved
loop-i-preserved g c =
    let a = c.args in
    let h = has_room_lem a.to.now a.at (length a.from.now) _ c.has_room.ensures (ap not c.if-not-has_room.false) in
    let e = put_block_more a.to.now a.at a.from.now (16 * c.loop-i.i) 16 (omega arith) h in
    let f : 16 * c.loop-i.i + 16 ≡ 16 * (c.loop-i.i + 1) = omega arith in
    cc

pub loop-i-2-preserved : goal.loop-i-2-preserved
loop-i-2-preserved g c =
    let a = c.args in
    let h = has_room_lem a.to.now a.at (length a.from.now) _ c.has_room.ensures (ap not c.if-not-has_room.false) in
    let f = c.index-from-i.is in
    let e = put_more a.to.now a.at a.from.now c.loop-i-2.i c.index-from-i.result (omega arith) (omega arith) in
    cc

pub returns : goal.returns
returns g c =
    let a = c.args in
    let h = has_room_lem a.to.now a.at (length a.from.now) _ c.has_room.ensures (ap not c.if-not-has_room.false) in
    let e = put_all a.to.now a.at a.from.now c.loop-i-2.i (omega arith) in
    let f = laid_in a.from.now a.to.now a.at h in
    cc
