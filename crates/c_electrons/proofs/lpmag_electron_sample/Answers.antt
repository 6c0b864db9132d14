-- `c_electrons::lpmag_electron_sample` meets its contract.
-- Assumes nothing.
use Rattle.c_answers.proofs.Handing.{count_told}
use Rattle.c_electrons.proofs.lpmag_electron_sample.Goals as goal

pub returns : goal.returns
returns c = count_told _ _ _ _ _ _ _ c.sample.ensures c.hand_count.ensures
