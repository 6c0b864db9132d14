-- What a record decides, from the state, the buffers' sizes and the record alone (01, "Joining accumulations", "Numbers a refused
-- record gets"; 02, requests 1 and 2).
-- Assumes nothing.
use Rattle.std.specs.Prelude.{ℕ, Bool, cond, ◌&&◌, List, [], ◌∷◌, ◌++◌, ◌≡◌, eqb, Ok, Err}
use Rattle.prelude.specs.Rules.{Rule, rule, of_part, first_broken}
use Rattle.record.specs.Layout.{packet_bytes, mag_bytes}
use Rattle.record.specs.Frame.{carries_mag, carries_science, first_burst}
use Rattle.record.specs.Refusals.{numbered}
use Rattle.record.specs.Rules.{rules, refused_number}
use Rattle.record.specs.Contents.{record_of}
use Rattle.record.specs.declared.Record.{Record}
use Rattle.mag.specs.Samples.{range}
use Rattle.clock.specs.Clock.{is_later, has_turn, dated, accepted}
use Rattle.accumulation.specs.Accumulation.{step_accumulation}
use Rattle.accumulation.specs.declared.AccumulationStep.{AccumulationStep}
use Rattle.major.specs.Major.{step_major}
use Rattle.major.specs.declared.MajorStep.{MajorStep}
use Rattle.snapshot.specs.Snapshot.{step_snapshot}
use Rattle.snapshot.specs.declared.SnapshotStep.{SnapshotStep}
use Rattle.state.specs.Soundness.{sound}
use Rattle.state.specs.Closed.{nothing_closed, no_works}
use Rattle.state.specs.declared.State.{State}
use Rattle.state.specs.declared.deciding.Decided.{Decided}

-- what a call is handed: the state, whether all lent buffers are of their size, and the record's bytes
pub record Input : Type 0 where
  pub state : State
  pub sized : Bool
  pub bytes : List ℕ

-- the record's fields, the full count at which it stands, and the range of its MAG bytes
abbrev pub fields_of : Input → Record
fields_of i = record_of i.bytes

abbrev pub count_at : Input → ℕ
count_at i = dated i.state.clock (fields_of i)

abbrev pub mag_range : Input → ℕ
mag_range i = range (mag_bytes (packet_bytes i.bytes))

-- 1: "a lent buffer isn't of its size, or the state breaks the list below"
unfoldable pub state_holds : Input → Bool
state_holds i = i.sized && sound i.state

-- 12
unfoldable pub clock_holds : Input → Bool
clock_holds i = is_later i.state.clock (fields_of i)

-- 14
unfoldable pub turn_holds : Input → Bool
turn_holds i = has_turn i.state.clock (fields_of i)

-- in 01's order, 14 "straight after 12" (02, request 1); 2 to 11 are the record's own. 13, the old guard, can't hit and isn't among
-- them (reader/specs/Guard.antt)
unfoldable pub reader_rules : List (Rule Input)
reader_rules = rule 1 state_holds ∷ (of_part (λ (i : Input). i.bytes) rules ++ (rule 12 clock_holds ∷ rule 14 turn_holds ∷ []))

-- the number of the first rule that fails, or 0
unfoldable pub number_of : Input → ℕ
number_of i = first_broken reader_rules i

-- "Each returns its number only; state and all four buffers stay as found", and so do the three that 02 adds
abbrev pub refusal : State → ℕ → Decided
refusal s n = record { stepped = record { answer = Err (numbered n); state = s; closed = nothing_closed }; works = no_works }

-- a record that no rule refuses, at full count d: its part in the accumulation, in the major frame, and in the snapshot
abbrev pub in_accumulation : State → Record → ℕ → AccumulationStep
in_accumulation s f d = step_accumulation s.accumulation (carries_science f.kind) f.frame_type d

abbrev pub in_major : State → Record → ℕ → ℕ → MajorStep
in_major s f d range = step_major s.major d (carries_mag f.kind) range f.subcom

abbrev pub in_snapshot : State → Record → ℕ → SnapshotStep
in_snapshot s f d = step_snapshot s.clock s.snapshot d (first_burst f.kind f.frame_code) f.second_code

unfoldable pub acceptance : State → Record → ℕ → ℕ → Decided
acceptance s f d range = record {
  stepped = record {
    answer = Ok (record { fields = f; gap = (in_accumulation s f d).gap });
    state = record {
      clock = accepted d;
      accumulation = (in_accumulation s f d).next;
      major = (in_major s f d range).next;
      snapshot = (in_snapshot s f d).next;
    };
    closed = record {
      major = (in_major s f d range).report;
      accumulation = (in_accumulation s f d).report;
      first_snapshot = (in_snapshot s f d).first;
      second_snapshot = (in_snapshot s f d).second;
    };
  };
  works = record {
    samples = (in_major s f d range).work;
    cells = (in_accumulation s f d).work;
    one = (in_snapshot s f d).one;
    two = (in_snapshot s f d).two;
  };
}

-- what a number decides: 0 that the record is accepted, any other that it is refused with that number
abbrev pub decided_as : Input → ℕ → Decided
decided_as i n = cond (eqb n 0) (acceptance i.state (fields_of i) (count_at i) (mag_range i)) (refusal i.state n)

-- the decision
unfoldable pub decided_of : Input → Decided
decided_of i = decided_as i (number_of i)

-- one decision; and its number, which follows
pub record DecidedIs (s : State) (sized : Bool) (r : List ℕ) (x : Decided) : Type 0 where
  pub is : x ≡ decided_of (record { state = s; sized = sized; bytes = r })
  pub number : refused_number x.stepped.answer ≡ number_of (record { state = s; sized = sized; bytes = r })
