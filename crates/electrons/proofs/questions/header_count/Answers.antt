-- `electrons::questions::header_count` meets its contract.
-- Assumes nothing.
use Rattle.std.proofs.Common.{true, ◌<◌, ◌∙◌, arith, get_or}
use mathlib.Core.Bool.{and-true}
use borrow.Author.Tests.{lt-ltb}
use Rattle.counts.specs.declared.codes.Divided.TheVariants.{By16}
use Rattle.carriage.specs.Carriage.{cells}
use Rattle.cells.specs.Raw.{askable, holds_cell}
use Rattle.electrons.proofs.Meant.{count_is, meant}
use Rattle.electrons.proofs.questions.header_count.Goals as goal

pub returns : goal.returns
returns c =
    let a = c.args.of in
    let p = c.args.p in
    let l : p < cells = omega (arith, c.requires) in
    let x = askable a.cells.now a.held in
    count_is _ _ (c.meaning_of.ensures
    ∙ rw (c.cell.ensures.is, lt-ltb p cells l, and-true x) (meant x (holds_cell a.held p) true true (get_or a.cells.now p 0) By16))
