-- What a call closed, and what is then done to the buffers.
-- Assumes nothing.
use Rattle.std.specs.Prelude.{None}
use Rattle.buffers.specs.Working.{no_work}
use Rattle.major.specs.Major.{slot_work}
use Rattle.snapshot.specs.Snapshot.{packet_work}
use Rattle.state.specs.declared.closed.Closed.{Closed}
use Rattle.state.specs.declared.closed.Works.{Works}

abbrev pub nothing_closed : Closed
nothing_closed = record { major = None; accumulation = None; first_snapshot = None; second_snapshot = None }

abbrev pub no_works : Works
no_works = record { samples = slot_work no_work 0; cells = no_work; one = packet_work no_work 0; two = packet_work no_work 0 }
