-- `state::deciding::decide_on`: a record that no rule refuses is accepted, and any other is refused with its rule's number.
-- Assumes nothing.
use Rattle.std.proofs.Common.{sym, refl, ◌∙◌}
use Rattle.state.specs.Deciding.{Input, count_at, clock_holds}
use Rattle.record.specs.Contents.{record_of}
use Rattle.state.proofs.Facts.{ready}
use Rattle.state.proofs.Decisions.{accepted_is, refused_is, decided_is, admitted_fields, not_admitted, type_below}
use Rattle.state.proofs.Told.{all_pass, passed_size}
use Rattle.state.proofs.deciding.decide_on.Goals as goal

pub range_in-requires : goal.range_in-requires
range_in-requires c =
    let a = c.args in
    let i : Input = record { state = a.state; sized = a.sized; bytes = a.r.now } in
    passed_size i (all_pass i (admitted_fields i c.in-Ok.x (sym c.admit.ensures ∙ c.in-Ok.is)).0)

pub accept-requires : goal.accept-requires
unfolding clock_holds
accept-requires c =
    let a = c.args in
    let i : Input = record { state = a.state; sized = a.sized; bytes = a.r.now } in
    let t = admitted_fields i c.in-Ok.x (sym c.admit.ensures ∙ c.in-Ok.is) in
    let p = all_pass i t.0 in
    rw t.1 (ready a.state (record_of a.r.now) (count_at i) p.sound p.later refl (type_below a.r.now))

pub returns-in-Ok : goal.returns-in-Ok
returns-in-Ok c =
    let a = c.args in
    let i : Input = record { state = a.state; sized = a.sized; bytes = a.r.now } in
    let t = admitted_fields i c.in-Ok.x (sym c.admit.ensures ∙ c.in-Ok.is) in
    decided_is i _ (c.accept.ensures ∙ rw (t.1, c.range_in.ensures) (sym (accepted_is i t.0)))

pub returns-in-Err : goal.returns-in-Err
returns-in-Err c =
    let a = c.args in
    let i : Input = record { state = a.state; sized = a.sized; bytes = a.r.now } in
    let t = not_admitted i c.in-Err.refusal (sym c.admit.ensures ∙ c.in-Err.is) in
    decided_is i _ (c.refused.ensures ∙ rw t.1 (sym (refused_is i t.0)))
