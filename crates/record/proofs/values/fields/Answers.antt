-- `record::values::fields`: the fields of a record that passes, and else the number.
-- Assumes nothing.
use Rattle.std.proofs.Common.{rules, ◌≡◌, refl, Ok, Err, arith}
use Rattle.record.specs.Rules.{broken, verdict_of}
use Rattle.record.specs.Contents.{record_of}
use Rattle.record.proofs.Order.{wrong_size, verdict_is}
use Rattle.record.proofs.Opened.{with_fields, without_fields}
use Rattle.record.proofs.values.fields.Goals as goal

pub returns-in_err-r : goal.returns-in_err-r
returns-in_err-r c =
    let r = c.args.r.now in
    let e : c.from_residual.result ≡ Err c.in_err-r.field-0.0 = search rules in
    let v : Err c.in_err-r.field-0.0 ≡ verdict_of (broken r) = grind (arith, wrong_size) in
    rw e (without_fields r _ (verdict_is r _ v) _ refl)

pub returns-in_err-check_sized : goal.returns-in_err-check_sized
returns-in_err-check_sized c =
    let r = c.args.r.now in
    let e : c.from_residual-in_err-check_sized.result ≡ Err c.in_err-check_sized.field-0.0 = search rules in
    let v : Err c.in_err-check_sized.field-0.0 ≡ verdict_of (broken r) = grind arith in
    rw e (without_fields r _ (verdict_is r _ v) _ refl)

pub returns : goal.returns
returns c =
    let r = c.args.r.now in
    let v : Ok tt ≡ verdict_of (broken r) = grind arith in
    let q : c.record_of.result ≡ record_of r = grind arith in
    rw q (with_fields r _ (verdict_is r _ v) refl)
