-- What a step of this room answers where a mark past type 55 is set: so it asks nothing of its caller. In a state that passes the list
-- none is (`step_is` in proofs/Facts.antt).
-- Assumes nothing.
use Rattle.std.specs.Prelude.{ℕ, cond, None}
use Rattle.buffers.specs.Working.{no_work}
use Rattle.clock.specs.declared.Clock.{Clock}
use Rattle.snapshot.specs.Snapshot.{packet_work, step_snapshot}
use Rattle.snapshot.specs.Soundness.{packets_among}
use Rattle.snapshot.specs.declared.Snapshot.{Snapshot}
use Rattle.snapshot.specs.declared.SnapshotStep.{SnapshotStep}

-- nothing is done
abbrev pub leaves : Snapshot → SnapshotStep
leaves s = record { next = s; first = None; second = None; one = packet_work no_work 0; two = packet_work no_work 0 }

unfoldable pub stepped_at : Clock → Snapshot → ℕ → ℕ → ℕ → SnapshotStep
stepped_at c s d one two = cond (packets_among s) (step_snapshot c s d one two) (leaves s)
