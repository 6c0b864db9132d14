-- `c_electrons::lpmag_three_d` meets its contract.
-- Assumes nothing.
use Rattle.c_answers.proofs.Handing.{count_told}
use Rattle.c_electrons.proofs.lpmag_three_d.Goals as goal

pub returns : goal.returns
returns c = count_told _ _ _ _ _ _ _ c.three_d.ensures c.hand_count.ensures
