-- `calls::contents::fields`: the fields that `record` gives, or the number.
-- Assumes nothing.
use Rattle.std.proofs.Common.{refl, sym, ap, ◌∙◌}
use borrow.Author.Tests.{ne_eqb}
use Rattle.shapes.specs.Fields.{fields_out}
use Rattle.record.proofs.Told.{fields_told, number_told}
use Rattle.calls.proofs.contents.fields.Goals as goal

pub returns-in-Ok : goal.returns-in-Ok
returns-in-Ok c =
    let t = fields_told c.args.r.now _ c.in-Ok.ensures _ refl in
    record { number = sym t.0; written = rw t.0 (c.from.ensures ∙ ap fields_out t.1) }

pub returns-in-Err : goal.returns-in-Err
returns-in-Err c =
    let t = number_told c.args.r.now _ c.in-Err.ensures _ refl in
    record { number = c.number.ensures ∙ t.0; written = rw (ne_eqb _ 0 (λ z. t.1 (t.0 ∙ z))) refl }
