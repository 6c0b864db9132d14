-- Demand 3 as a law: for every start, every length and pattern of loss that 02 allows (request 1), and whatever meets the promises of
-- step and finish.
-- Assumes nothing.
use Rattle.std.specs.Prelude.{◌≡◌, true, List, ℕ}
use Rattle.prelude.specs.Every.{Every}
use Rattle.state.specs.Soundness.{fresh}
use Rattle.state.specs.declared.State.{State}
use Rattle.reader.specs.Buffers.{Buffers, sized}
use Rattle.stream.specs.Running.{Reader, Trace, trace_of, StepAllowed, EndAllowed, Allowed}
use Rattle.stream.specs.Sending.{sent_count, Fate, Sends, Unwrapped, fed, ExtraRefused, unspoiled, Near, Stream}
use Rattle.stream.specs.Demand.{Demand3}
use Rattle.stream.specs.Once.{OnceEach}

-- "feed what remains in order to a fresh reader with buffers of the right sizes, each handed on as the last call left it, and
-- finish once. Then ...": proved as `law` in proofs/Law.antt
abbrev pub DemandLaw : Type 0
DemandLaw = (xs : List Fate) (b : Buffers) (c k : ℕ) (t : Trace) → Stream c k xs b t → Allowed fresh b (fed xs) t → Demand3 c k xs t × OnceEach c k xs t

-- demand 3 of a stream "without wrapping": no turn is counted, so the full count of each record left is its own, and all are within
-- turn 4,095. 02's bound on the counts that go unaccepted in a row stays: without it this doesn't hold (`far` in proofs/Far.antt).
-- Proved as `unwrapped` in proofs/Unwrapped.antt
abbrev pub UnwrappedLaw : Type 0
UnwrappedLaw = (xs : List Fate) (b : Buffers) (c k : ℕ) (t : Trace) → Sends c k xs → Unwrapped c xs → Near (unspoiled c k xs) → sized b ≡ true
    → ExtraRefused xs t → Allowed fresh b (fed xs) t
    → Demand3 c k xs t × OnceEach c k xs t × Every (λ f. sent_count f.bytes ≡ f.count) (unspoiled c k xs)

-- a reader that keeps the promises of `reader::step` and `reader::finish`, and one that meets demand 3: who keeps them meets it
-- (`meets`), and the reader of the definitions keeps them (`defined_keeps`)
pub record Keeps (R : Reader) : Type 0 where
  pub steps : (s : State) (b : Buffers) (r : List ℕ) → StepAllowed s b r (R.steps s b r)
  pub finishes : (s : State) (b : Buffers) → EndAllowed s b (R.finishes s b)

abbrev pub Meets : Reader → Type 0
Meets R = (xs : List Fate) (b : Buffers) (c k : ℕ) → Stream c k xs b (trace_of R fresh b (fed xs))
    → Demand3 c k xs (trace_of R fresh b (fed xs)) × OnceEach c k xs (trace_of R fresh b (fed xs))
