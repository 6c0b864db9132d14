-- `c_electrons::lpmag_cell` meets its contract.
-- Assumes nothing.
use Rattle.c_answers.proofs.Handing.{byte_told}
use Rattle.c_electrons.proofs.lpmag_cell.Goals as goal

pub returns : goal.returns
returns c = byte_told _ _ _ _ _ _ _ c.cell.ensures c.hand.ensures
