-- `snapshots::raw::Held::rate` meets its contract.
-- Assumes nothing.
use Rattle.std.proofs.Common.{refl, arith}
use Rattle.snapshots.proofs.Told.{told}
use Rattle.snapshots.proofs.raw.Held.rate.Goals as goal

pub returns : goal.returns
returns c = told _ _ _ _ _ _ (λ t. omega arith) 3 refl c.count_at.ensures
