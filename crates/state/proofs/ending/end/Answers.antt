-- `state::ending::end`: what each test that fails, and both that hold, say of the end.
-- Assumes nothing.
use Rattle.std.proofs.Common.{sym, ◌≡◌, false, ◌&&◌}
use Rattle.state.specs.Soundness.{sound}
use Rattle.state.proofs.Ends.{is_unended, is_ended}
use Rattle.state.proofs.ending.end.Goals as goal
use Rattle.state.proofs.ending.end.Goals.{then-not-sized-via-then-not-sized, then-not-sized-via-else-not-sized+then-not-is_sound}

pub returns-then-not-sized : goal.returns-then-not-sized
returns-then-not-sized c =
    let a = c.args in
    let e : (a.sized && sound a.state) ≡ false = elim c.then-not-sized.branch [
      | then-not-sized-via-then-not-sized w ↦ rw w.if-not-sized.true
      | then-not-sized-via-else-not-sized+then-not-is_sound w ↦ rw (w.if-not-sized.false, sym w.if-not-is_sound.ensures)
    ] in
    is_unended a.state a.sized _ e c.not_ended.ensures

pub returns : goal.returns
returns c =
    let a = c.args in
    is_ended a.state a.sized _ (rw (c.if-not-sized.false, sym c.if-not-is_sound.ensures)) (cc)
