-- `snapshots::raw::Held::byte` meets its contract.
-- Assumes nothing.
use Rattle.std.proofs.Common.{◌∙◌, sym}
use Rattle.cells.proofs.Bytes.{not_there, not_held, is_there}
use Rattle.snapshots.proofs.raw.Held.byte.Goals as goal

pub returns-then-not-has : goal.returns-then-not-has
returns-then-not-has c = not_there _ _ _ (sym c.has.ensures ∙ c.if-not-has.true)

pub returns-then-not-holds : goal.returns-then-not-holds
returns-then-not-holds c = not_held _ _ _ (sym c.has.ensures ∙ c.if-not-has.false) (sym c.holds.ensures ∙ c.if-not-holds.true)

pub returns : goal.returns
returns c = is_there _ _ _ (sym c.has.ensures ∙ c.if-not-has.false) (sym c.holds.ensures ∙ c.if-not-holds.false)
