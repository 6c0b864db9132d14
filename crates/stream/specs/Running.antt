-- A reader over a list of records: a step for each, then finish once (demand 3).
-- Assumes nothing.
use Rattle.std.specs.Prelude.{Option, Some, None, List, [], ◌∷◌, ◌++◌, ℕ, ℤ}
use Rattle.record.specs.Rules.{refused_number}
use Rattle.state.specs.Deciding.{decided_of}
use Rattle.state.specs.Ending.{ended_of}
use Rattle.state.specs.declared.State.{State}
use Rattle.accumulation.specs.declared.AccumulationReport.{AccumulationReport}
use Rattle.state.specs.declared.deciding.Stepped.{Stepped}
use Rattle.state.specs.declared.ending.Finished.{Finished}
use Rattle.major.specs.declared.Major.{Major}
use Rattle.snapshot.specs.declared.SnapshotReport.{SnapshotReport}
use Rattle.state.specs.declared.closed.Closed.{Closed}
use Rattle.reader.specs.Buffers.{Buffers, sized}
use Rattle.reader.specs.Steps.{input, stepped, ended, StepIs, FinishIs}

-- a call of step: what it answers, and the buffers as it leaves them
pub record Call : Type 0 where
  pub result : Stepped
  pub left : Buffers

-- the call of finish: what it answers, and the buffers as it leaves them
pub record End : Type 0 where
  pub result : Finished
  pub left : Buffers

-- whatever answers a step and a finish
pub record Reader : Type 0 where
  pub steps : State → Buffers → List ℕ → Call
  pub finishes : State → Buffers → End

-- every call, in order
pub data Trace : Type 0 where
  step : Call → Trace → Trace
  finish : End → Trace

-- each record by itself, "each [buffer] handed on as the last call left it, and finish once"
unfoldable pub trace_of : Reader → State → Buffers → List (List ℕ) → Trace
trace_of R s b [] = finish (R.finishes s b)
trace_of R s b (r ∷ rs) = step (R.steps s b r) (trace_of R (R.steps s b r).result.state (R.steps s b r).left rs)

-- The reader of the definitions that the promises of `reader::step` and `reader::finish` cite.
unfoldable pub called : State → Buffers → List ℕ → Call
called s b r = record { result = (decided_of (input s b r)).stepped; left = stepped s b r }

abbrev pub defined : Reader
defined = record { steps = called; finishes = λ s b. record { result = (ended_of s (sized b)).finished; left = ended s b } }

abbrev pub run : State → Buffers → List (List ℕ) → Trace
run s b rs = trace_of defined s b rs

-- What the promises themselves allow at each call. It is `run` and nothing else: `only_run`, `run_allowed` in proofs/Runs.antt.
abbrev pub StepAllowed : State → Buffers → List ℕ → Call → Type 0
StepAllowed s b r c = StepIs s b r c.result c.left

abbrev pub EndAllowed : State → Buffers → End → Type 0
EndAllowed s b e = FinishIs s b e.result e.left

unfoldable pub Allowed : State → Buffers → List (List ℕ) → Trace → Type 0
Allowed s b [] (finish e) = EndAllowed s b e
Allowed s b [] (step c t) = ⊥
Allowed s b (r ∷ rs) (finish e) = ⊥
Allowed s b (r ∷ rs) (step c t) = StepAllowed s b r c × Allowed c.result.state c.left rs t

-- What is handed out, read off the trace: a report that something closed, with the finished buffer as it then stands.
pub record ClosedAccumulation : Type 0 where
  pub report : AccumulationReport
  pub cells : List ℕ

pub record ClosedMajor : Type 0 where
  pub frame : Major
  pub samples : List ℤ

pub record ClosedSnapshot : Type 0 where
  pub report : SnapshotReport
  pub bytes : List ℕ

abbrev pub handed_accumulation : Option AccumulationReport → List ℕ → List ClosedAccumulation
handed_accumulation None c = []
handed_accumulation (Some r) c = record { report = r; cells = c } ∷ []

abbrev pub handed_major : Option Major → List ℤ → List ClosedMajor
handed_major None s = []
handed_major (Some m) s = record { frame = m; samples = s } ∷ []

abbrev pub handed_snapshot : Option SnapshotReport → List ℕ → List ClosedSnapshot
handed_snapshot None b = []
handed_snapshot (Some r) b = record { report = r; bytes = b } ∷ []

unfoldable pub accumulations : Trace → List ClosedAccumulation
accumulations (step c t) = handed_accumulation c.result.closed.accumulation c.left.finished_cells ++ accumulations t
accumulations (finish e) = handed_accumulation e.result.closed.accumulation e.left.finished_cells

unfoldable pub majors : Trace → List ClosedMajor
majors (step c t) = handed_major c.result.closed.major c.left.finished_samples ++ majors t
majors (finish e) = handed_major e.result.closed.major e.left.finished_samples

-- of two that one call closes, the one in the first finished buffer first
abbrev pub snapshots_out : Closed → Buffers → List ClosedSnapshot
snapshots_out c b = handed_snapshot c.first_snapshot b.first_snapshot ++ handed_snapshot c.second_snapshot b.second_snapshot

unfoldable pub snapshots : Trace → List ClosedSnapshot
snapshots (step c t) = snapshots_out c.result.closed c.left ++ snapshots t
snapshots (finish e) = snapshots_out e.result.closed e.left

-- each state that is handed back, the end state last
unfoldable pub states : Trace → List State
states (step c t) = c.result.state ∷ states t
states (finish e) = e.result.state ∷ []

-- the number of each step's answer
unfoldable pub answers : Trace → List ℕ
answers (step c t) = refused_number c.result.answer ∷ answers t
answers (finish e) = []
