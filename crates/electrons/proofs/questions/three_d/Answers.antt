-- `electrons::questions::three_d` meets its contract.
-- Assumes nothing.
use Rattle.std.proofs.Common.{true, refl, get_or, ◌∙◌, sym, arith}
use Rattle.std.proofs.lemmas.Grind.{common_steps}
use Rattle.counts.specs.declared.codes.Divided.TheVariants.{By1}
use Rattle.carriage.specs.Carriage.{cells, three_cell}
use Rattle.cells.specs.Raw.{askable, holds_cell}
use Rattle.electrons.specs.Questions.{has_three}
use Rattle.electrons.proofs.Bins.{three_in}
use Rattle.electrons.proofs.Meant.{asked_told, nowhere, no_place}
use Rattle.electrons.proofs.questions.three_d.Goals as goal

pub returns-in_err-place : goal.returns-in_err-place
returns-in_err-place c =
    let a = c.args in
    nowhere (askable a.of.cells.now a.of.held) (has_three a.step a.angle) _ _ refl
    (no_place _ _ (sym c.three_place.ensures ∙ c.in_err-place.ensures.ok_part)) (grind (arith, common_steps))

pub returns : goal.returns
returns c =
    let a = c.args in
    let s = a.of.cells.now in
    asked_told (askable s a.of.held) (holds_cell a.of.held) (λ q. get_or s q 0) cells (three_cell a.step a.angle) By1 (has_three a.step a.angle)
    true true (three_in a.step a.angle) _ _ _ (sym c.three_place.ensures ∙ c.in_ok-place.ensures.ok_part) c.cell.ensures.is c.meaning_of.ensures
