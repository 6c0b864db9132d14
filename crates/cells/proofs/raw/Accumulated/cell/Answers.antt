-- `cells::raw::Accumulated::cell` meets its contract.
-- Assumes nothing.
use Rattle.std.proofs.Common.{◌∙◌, sym}
use Rattle.cells.proofs.Bytes.{not_there, not_held, is_there}
use Rattle.cells.proofs.raw.Accumulated.cell.Goals as goal

pub returns-then-not-has : goal.returns-then-not-has
returns-then-not-has c = not_there _ _ _ (sym c.has.ensures ∙ c.if-not-has.true)

pub returns-then-not-holds_cell : goal.returns-then-not-holds_cell
returns-then-not-holds_cell c = not_held _ _ _ (sym c.has.ensures ∙ c.if-not-has.false) (sym c.holds_cell.ensures ∙ c.if-not-holds_cell.true)

pub returns : goal.returns
returns c = is_there _ _ _ (sym c.has.ensures ∙ c.if-not-has.false) (sym c.holds_cell.ensures ∙ c.if-not-holds_cell.false)
