-- `snapshots::raw::Held::total` meets its contract.
-- Assumes nothing.
use Rattle.std.proofs.Common.{refl, arith}
use Rattle.snapshots.proofs.Told.{told}
use Rattle.snapshots.proofs.raw.Held.total.Goals as goal

pub returns : goal.returns
returns c = told _ _ _ _ _ _ (λ t. omega arith) 2 refl c.count_at.ensures
