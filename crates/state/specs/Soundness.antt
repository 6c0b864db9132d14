-- The reader's state, and the state list (01, "Numbers a refused record gets") by its parts.
-- Assumes nothing.
use Rattle.std.specs.Prelude.{Bool, ◌&&◌}
use Rattle.clock.specs.Clock.{unset, clock_sound}
use Rattle.accumulation.specs.Accumulation.{no_accumulation}
use Rattle.accumulation.specs.Soundness.{accumulation_sound}
use Rattle.major.specs.Major.{no_major}
use Rattle.major.specs.Soundness.{major_sound}
use Rattle.snapshot.specs.Snapshot.{no_snapshot}
use Rattle.snapshot.specs.Soundness.{snapshot_sound}
use Rattle.state.specs.declared.State.{State}

-- "The fresh state is all 0."
abbrev pub fresh : State
fresh = record { clock = unset; accumulation = no_accumulation; major = no_major; snapshot = no_snapshot }

-- each part's own clauses (clock/Clock, accumulation/Soundness, major/Soundness, snapshot/Soundness). "Until something is accepted, all is 0" is among them:
-- `unstarted` in proofs/Keeping.antt
unfoldable pub sound : State → Bool
sound s =
    clock_sound s.clock
    && (accumulation_sound s.clock s.accumulation && (major_sound s.clock s.major && snapshot_sound s.clock s.snapshot))
