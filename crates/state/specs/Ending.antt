-- What finish decides (01, "Joining accumulations"; 02, request 2).
-- Assumes nothing.
use Rattle.std.specs.Prelude.{ℕ, Bool, cond, ◌&&◌, ◌≡◌, None, Ok, Err}
use Rattle.record.specs.Rules.{refused_number}
use Rattle.record.specs.Refusals.{numbered}
use Rattle.buffers.specs.Working.{no_work, closing_work}
use Rattle.accumulation.specs.Accumulation.{no_accumulation, is_open, reported}
use Rattle.major.specs.Major.{no_major, major_open, major_reported, slot_work}
use Rattle.snapshot.specs.Snapshot as snapshot
use Rattle.snapshot.specs.Snapshot.{no_snapshot, packet_work}
use Rattle.state.specs.Soundness.{sound}
use Rattle.state.specs.Closed.{nothing_closed, no_works}
use Rattle.state.specs.declared.State.{State}
use Rattle.state.specs.declared.ending.Ended.{Ended}

-- "Finish can give 1 only."
abbrev pub end_number : State → Bool → ℕ
end_number s sized = cond (sized && sound s) 0 1

abbrev pub unended : State → Ended
unended s = record { finished = record { ending = Err (numbered 1); state = s; closed = nothing_closed }; works = no_works }

-- "Closed by finish: whichever are open, likewise. Finish keeps the last accepted count, and nothing stays open." "Finish closes the
-- open [snapshot] last, into the first" (02, request 2)
abbrev pub ending : State → Ended
ending s = record {
  finished = record {
    ending = Ok tt;
    state = record { clock = s.clock; accumulation = no_accumulation; major = no_major; snapshot = no_snapshot };
    closed = record {
      major = major_reported s.major;
      accumulation = reported s.accumulation;
      first_snapshot = snapshot.reported s.snapshot;
      second_snapshot = None;
    };
  };
  works = record {
    samples = slot_work (closing_work (major_open s.major)) 0;
    cells = closing_work (is_open s.accumulation);
    one = packet_work (closing_work (snapshot.is_open s.snapshot)) 0;
    two = packet_work no_work 0;
  };
}

unfoldable pub ended_of : State → Bool → Ended
ended_of s sized = cond (sized && sound s) (ending s) (unended s)

-- one decision; and its number, which follows
pub record EndedIs (s : State) (sized : Bool) (x : Ended) : Type 0 where
  pub is : x ≡ ended_of s sized
  pub number : refused_number x.finished.ending ≡ end_number s sized
