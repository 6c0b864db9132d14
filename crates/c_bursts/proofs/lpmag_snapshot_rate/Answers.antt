-- `c_bursts::lpmag_snapshot_rate` meets its contract.
-- Assumes nothing.
use Rattle.c_answers.proofs.Handing.{count_told}
use Rattle.c_bursts.proofs.lpmag_snapshot_rate.Goals as goal

pub returns : goal.returns
returns c = count_told _ _ _ _ _ _ _ c.rate.ensures c.hand_count.ensures
