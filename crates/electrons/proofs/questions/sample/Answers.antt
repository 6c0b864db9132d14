-- `electrons::questions::sample` meets its contract.
-- Assumes nothing.
use Rattle.std.proofs.Common.{not, refl, get_or, ◌∙◌, sym, ap, arith}
use Rattle.std.specs.Prelude.{Option}
use Rattle.std.proofs.lemmas.Grind.{common_steps}
use Rattle.counts.specs.declared.codes.Divided.{Divided}
use Rattle.carriage.specs.Carriage.{cells, sample_cell}
use Rattle.cells.specs.Raw.{askable, holds_cell}
use Rattle.electrons.specs.Meaning.{meaning}
use Rattle.electrons.specs.Questions.{state_cell, has_sample, scalable, divided_by}
use Rattle.electrons.proofs.Bins.{sample_in_lem}
use Rattle.electrons.proofs.Meant.{asked_told, nowhere, no_place}
use Rattle.electrons.proofs.questions.sample.Goals as goal

pub returns-in_err-place : goal.returns-in_err-place
returns-in_err-place c =
    let a = c.args in
    nowhere (askable a.of.cells.now a.of.held) (has_sample a.bin a.number a.angle) _ _ refl
    (no_place _ _ (sym c.sample_place.ensures ∙ c.in_err-place.ensures.ok_part)) (grind (arith, common_steps))

pub returns : goal.returns
returns c =
    let a = c.args in
    let s = a.of.cells.now in
    let b = a.bin in
    asked_told (askable s a.of.held) (holds_cell a.of.held) (λ q. get_or s q 0) cells (sample_cell b a.number a.angle) (divided_by s b)
    (has_sample b a.number a.angle) (not (scalable b)) (holds_cell a.of.held state_cell) (λ t. omega (arith, sample_in_lem b a.number a.angle t)) _ _ _
    (sym c.sample_place.ensures ∙ c.in_ok-place.ensures.ok_part) c.cell.ensures.is
    (c.meaning_of.ensures ∙ ap (λ (d : Option Divided). meaning c.cell.result d) c.scale_of.ensures)
