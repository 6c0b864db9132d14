-- `carriage::carriers::carrier_of` meets its contract.
-- Assumes nothing.
use Rattle.std.proofs.Common.{sym}
use Rattle.carriage.proofs.EachCell.{carrier_none}
use Rattle.carriage.proofs.carriers.carrier_of.Goals as goal

pub returns : goal.returns
returns c = sym (carrier_none c.args.p c.if-p-lt-CELLS.false)
