-- `bits::putting::put`: a turn puts one byte more; at the end all are put.
-- Assumes nothing.
use Rattle.std.proofs.Common.{ℕ, ◌+◌, ◌*◌, ◌/◌, ◌%◌, ◌^◌, List, not, get_or, set, sym, ap, ◌∙◌, arith}
use Rattle.buffers.proofs.Blocks.{put_more, put_all}
use Rattle.buffers.proofs.Patches.{has_room_lem, no_room, laid_in, laid_out}
use Rattle.bits.specs.Numbers.{order_of}
use Rattle.bits.specs.Putting.{bytes_of}
use Rattle.bits.proofs.BytesOf.{length_bytes, byte_at_lem}
use Rattle.bits.proofs.putting.put.Goals as goal

pub returns-then-not-has_room : goal.returns-then-not-has_room
returns-then-not-has_room c =
    let a = c.args in
    let e = length_bytes (order_of a.order) a.n a.x in
    let h = no_room a.room.now a.at a.n _ c.has_room.ensures (ap not c.if-not-has_room.true) in
    laid_out (bytes_of (order_of a.order) a.n a.x) a.room.now a.at (omega arith)

pub loop-k-preserved : goal.loop-k-preserved
loop-k-preserved c =
    let a = c.args in
    let l = c.loop-k in
    let o = order_of a.order in
    let s = bytes_of o a.n a.x in
    let g = length_bytes o a.n a.x in
    let h = has_room_lem a.room.now a.at a.n _ c.has_room.ensures (ap not c.if-not-has_room.false) in
    ap (λ (v : ℕ). set l.room (a.at + l.k) v)
    (c.byte.ensures ∙ ap (λ (r : ℕ). a.x / 2 ^ (8 * r) % 256) c.rank.ensures ∙ sym (byte_at_lem o a.n a.x l.k (omega arith)))
    ∙ ap (λ (d : List ℕ). set d (a.at + l.k) (get_or s l.k 0)) l.invariant
    ∙ put_more a.room.now a.at s l.k 0 (omega arith) (omega arith)

pub returns : goal.returns
returns c =
    let a = c.args in
    let s = bytes_of (order_of a.order) a.n a.x in
    let e = length_bytes (order_of a.order) a.n a.x in
    let h = has_room_lem a.room.now a.at a.n _ c.has_room.ensures (ap not c.if-not-has_room.false) in
    c.loop-k.invariant ∙ put_all a.room.now a.at s c.loop-k.k (omega arith) ∙ sym (laid_in s a.room.now a.at (omega arith))
