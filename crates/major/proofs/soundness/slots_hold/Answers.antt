-- `major::soundness::slots_hold`: a further slot is tested, and at the end all 16 are.
-- Assumes nothing.
use Rattle.std.proofs.Common.{◌≡◌, ℕ, ◌+◌, Bool, true, false, ◌&&◌, sym, ap, ◌∙◌, add-one, arith}
use Rattle.prelude.specs.Upto.{both, upto}
use Rattle.major.specs.Soundness.{slot_holds, slots_hold}
use Rattle.major.proofs.soundness.slots_hold.Goals as goal

one_more : (f : ℕ → Bool) (i : ℕ) (b all : Bool) → b ≡ f i → all ≡ upto f i → (b && all) ≡ upto f (i + 1)
unfolding both
one_more f i true all e h = rw (add-one i, sym e) h
one_more f i false all e h = rw (add-one i, sym e)

pub loop-i-preserved : goal.loop-i-preserved
unfolding slot_holds
loop-i-preserved c =
    one_more (slot_holds c.args.m) c.loop-i.i c.slot_holds-all.result c.loop-i.all c.slot_holds-all.ensures c.loop-i.invariant

pub returns : goal.returns
unfolding slots_hold
returns c = let e : c.loop-i.i ≡ 16 = omega arith in c.loop-i.invariant ∙ ap (upto (slot_holds c.args.m)) e
