-- `c_electrons::lpmag_total` meets its contract.
-- Assumes nothing.
use Rattle.c_answers.proofs.Handing.{count_told}
use Rattle.c_electrons.proofs.lpmag_total.Goals as goal

pub returns : goal.returns
returns c = count_told _ _ _ _ _ _ _ c.total.ensures c.hand_count.ensures
