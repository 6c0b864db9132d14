-- `major::steps::step`: what each way out does, by what the tests before it answered.
-- Assumes nothing.
use Rattle.std.proofs.Common.{sym}
use Rattle.std.specs.Prelude.{is_some, unwrap_or}
use Rattle.major.proofs.Parts.{is_renewed, is_left, is_stayed}
use Rattle.major.proofs.steps.step.Goals as goal

pub returns-then-not-continues_at : goal.returns-then-not-continues_at
returns-then-not-continues_at c =
    is_renewed c.args.m c.args.d (is_some c.args.mag) (unwrap_or c.args.mag 0) c.args.word _ (sym c.if-not-continues_at.ensures) c.renew.ensures

pub returns-then-not-slot_free : goal.returns-then-not-slot_free
returns-then-not-slot_free c =
    is_left c.args.m c.args.d (is_some c.args.mag) (unwrap_or c.args.mag 0) c.args.word _ (sym c.if-not-continues_at.ensures)
    (sym c.if-not-slot_free.ensures.value) c.if-not-slot_free.ensures.mag_slots_bound c.leave.ensures

pub returns : goal.returns
returns c =
    is_stayed c.args.m c.args.d (is_some c.args.mag) (unwrap_or c.args.mag 0) c.args.word _ (sym c.if-not-continues_at.ensures)
    (sym c.if-not-slot_free.ensures.value) c.stay.ensures
