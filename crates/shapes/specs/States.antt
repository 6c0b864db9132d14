-- The reader's state as C has it (include/lpmag.h, "structs").
-- Assumes nothing.
use Rattle.std.specs.Prelude.{Bool, cond, ◌&&◌, eqb, leb, Result, Ok, Err}
use Rattle.record.specs.declared.refusal.Refusal.{Refusal}
use Rattle.record.specs.declared.refusal.Refusal.TheVariants.{BufferOrState}
use Rattle.accumulation.specs.declared.Accumulation.{Accumulation}
use Rattle.snapshot.specs.declared.Snapshot.{Snapshot}
use Rattle.state.specs.declared.State.{State}
use Rattle.shapes.specs.Frames.{flag, major_in, major_out}
use Rattle.shapes.specs.declared.states.CAccumulation.{CAccumulation}
use Rattle.shapes.specs.declared.states.CSnapshot.{CSnapshot}
use Rattle.shapes.specs.declared.states.CState.{CState}

-- flags of 0 or 1, and 0 in each spare field: only then do the bytes stand for a state
unfoldable pub is_state : CState → Bool
is_state c =
    leb c.any 1
    && (eqb c.spare8 0
    && (eqb c.spare16 0
    && (eqb c.spare32 0
    && (eqb c.accumulation.spare8 0
    && (eqb c.accumulation.spare16 0
    && (eqb c.accumulation.spare32 0 && (eqb c.major.spare32 0 && (leb c.snapshot.cut 1 && eqb c.snapshot.spare16 0))))))))

abbrev pub accumulation_in : CAccumulation → Accumulation
accumulation_in c = record { first = c.first; held = c.held; last_type = c.last_type; last_count = c.last_count; others = c.others }

abbrev pub accumulation_out : Accumulation → CAccumulation
accumulation_out a = record {
  first = a.first;
  held = a.held;
  last_count = a.last_count;
  others = a.others;
  last_type = a.last_type;
  spare8 = 0;
  spare16 = 0;
  spare32 = 0;
}

abbrev pub snapshot_in : CSnapshot → Snapshot
snapshot_in c = record { first = c.first; held = c.held; last_type = c.last_type; cut = eqb c.cut 1 }

abbrev pub snapshot_out : Snapshot → CSnapshot
snapshot_out s = record { first = s.first; held = s.held; last_type = s.last_type; cut = flag s.cut; spare16 = 0 }

abbrev pub state_in : CState → State
state_in c = record {
  clock = record { any = eqb c.any 1; last = c.last };
  accumulation = accumulation_in c.accumulation;
  major = major_in c.major;
  snapshot = snapshot_in c.snapshot;
}

-- the state of a struct; rule 1, "the state breaks the list", for what stands for none
unfoldable pub state_of : CState → Result State Refusal
state_of c = cond (is_state c) (Ok (state_in c)) (Err BufferOrState)

abbrev pub state_out : State → CState
state_out s = record {
  last = s.clock.last;
  any = flag s.clock.any;
  spare8 = 0;
  spare16 = 0;
  spare32 = 0;
  accumulation = accumulation_out s.accumulation;
  major = major_out s.major;
  snapshot = snapshot_out s.snapshot;
}
