-- `c_bursts::lpmag_snapshot_angle` meets its contract.
-- Assumes nothing.
use Rattle.c_answers.proofs.Handing.{byte_told}
use Rattle.c_bursts.proofs.lpmag_snapshot_angle.Goals as goal

pub returns : goal.returns
returns c = byte_told _ _ _ _ _ _ _ c.mag_angle.ensures c.hand.ensures
