-- `bits::words::word`: a byte more weighs 256 times less than those before it.
-- Assumes nothing.
use Rattle.std.proofs.Common.{ℕ, ◌+◌, ◌*◌, ◌<◌, not, get_or, ap, ◌∙◌, arith}
use Rattle.buffers.proofs.Patches.{has_room_lem}
use Rattle.bits.proofs.WordBytes.{first, none, more, small, place, byte}
use Rattle.bits.proofs.words.word.Goals as goal

pub loop-y-init : goal.loop-y-init
loop-y-init c = none c.args.b.now c.args.at

pub overflow_mul-x : goal.overflow_mul-x
overflow_mul-x c =
    let a = c.args in
    let h = has_room_lem a.b.now a.at a.n _ c.has_room.ensures (ap not c.if-not-has_room.false) in
    let l = place a.b.now a.at a.n c.loop-y.y-index h c.loop-y-test.true in
    let s : first a.b.now a.at c.loop-y.y-index < 72057594037927936 = small a.b.now a.at c.loop-y.y-index 7 (omega arith) in
    record { fits = omega arith }

pub overflow_add-x : goal.overflow_add-x
overflow_add-x c =
    let a = c.args in
    let i = c.loop-y.y-index in
    let h = has_room_lem a.b.now a.at a.n _ c.has_room.ensures (ap not c.if-not-has_room.false) in
    let l = place a.b.now a.at a.n i h c.loop-y-test.true in
    let s : first a.b.now a.at i < 72057594037927936 = small a.b.now a.at i 7 (omega arith) in
    let e = byte a.b.now a.at a.n i h c.loop-y-test.true in
    let f = (c.type_inv.b (a.at + i)).fits in
    record { fits = omega arith }

pub loop-y-preserved : goal.loop-y-preserved
loop-y-preserved c =
    let b = c.args.b.now in
    let at = c.args.at in
    let i = c.loop-y.y-index in
    let h = has_room_lem b at c.args.n _ c.has_room.ensures (ap not c.if-not-has_room.false) in
    ap (λ (y : ℕ). c.loop-y.x * 256 + y) (c.from.ensures ∙ byte b at c.args.n i h c.loop-y-test.true)
    ∙ ap (λ (y : ℕ). y * 256 + get_or b (at + i) 0) c.loop-y.invariant
    ∙ more b at i (c.type_inv.b (at + i)).fits
