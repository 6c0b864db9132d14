-- `state::deciding::admit`: what each rule that fails, and all that hold, say of the record.
-- Assumes nothing.
use Rattle.std.proofs.Common.{sym, ◌∙◌, ◌≡◌, rules, false, ◌&&◌, Err}
use Rattle.record.proofs.Told.{fields_told}
use Rattle.state.specs.Soundness.{sound}
use Rattle.state.specs.Deciding.{Input, state_holds}
use Rattle.state.proofs.Decisions.{unsound, record_refused, clock_refused, admitted}
use Rattle.state.proofs.deciding.admit.Goals as goal
use Rattle.state.proofs.deciding.admit.Goals.{then-not-sized-via-then-not-sized, then-not-sized-via-else-not-sized+then-not-is_sound}

pub returns-then-not-sized : goal.returns-then-not-sized
unfolding state_holds
returns-then-not-sized c =
    let a = c.args in
    let e : (a.sized && sound a.state) ≡ false = elim c.then-not-sized.branch [
      | then-not-sized-via-then-not-sized w ↦ rw w.if-not-sized.true
      | then-not-sized-via-else-not-sized+then-not-is_sound w ↦ rw (w.if-not-sized.false, sym w.if-not-is_sound.ensures)
    ] in
    sym (unsound (record { state = a.state; sized = a.sized; bytes = a.r.now }) e)

pub returns-in_err-fields : goal.returns-in_err-fields
unfolding state_holds
returns-in_err-fields c =
    let a = c.args in
    let i : Input = record { state = a.state; sized = a.sized; bytes = a.r.now } in
    let k : c.from_residual.result ≡ Err c.in_err-fields.field-0.0 = search rules in
    k ∙ sym (record_refused i (rw (c.if-not-sized.false, sym c.if-not-is_sound.ensures)) _ (sym c.fields.ensures.is ∙ c.in_err-fields.was))

pub returns-in_err-count : goal.returns-in_err-count
unfolding state_holds
returns-in_err-count c =
    let a = c.args in
    let i : Input = record { state = a.state; sized = a.sized; bytes = a.r.now } in
    let t = fields_told a.r.now c.fields.result c.fields.ensures c.in_ok-fields.fields c.in_ok-fields.was in
    let k : c.from_residual-in_err-count.result ≡ Err c.in_err-count.field-0.0 = search rules in
    k ∙ sym (clock_refused i (rw (c.if-not-sized.false, sym c.if-not-is_sound.ensures)) t.0 _ (rw (← t.1) (sym c.arrival_of.ensures ∙ c.in_err-count.was)))

pub returns : goal.returns
unfolding state_holds
returns c =
    let a = c.args in
    let i : Input = record { state = a.state; sized = a.sized; bytes = a.r.now } in
    let t = fields_told a.r.now c.fields.result c.fields.ensures c.in_ok-fields.fields c.in_ok-fields.was in
    rw t.1 (sym (admitted i (rw (c.if-not-sized.false, sym c.if-not-is_sound.ensures)) t.0 _ (rw (← t.1) (sym c.arrival_of.ensures ∙ c.in_ok-count.was))))
