-- What 01's "How far the statements reach" says that a reader must not be. `RefusesAll`, `FixedAnswer` and `NeverSaysJoins` break
-- demand 2, the others demand 3 (proofs/Readers.antt: no reader that keeps the promises is one of the former, and none that meets
-- demand 3 one of the latter).
-- Assumes nothing.
use Rattle.std.specs.Prelude.{◌≡◌, List, ℕ, ◌<◌, ◌≤◌, None, Result, Ok}
use Rattle.prelude.specs.Every.{Every}
use Rattle.record.specs.Rules.{refused_number}
use Rattle.record.specs.declared.refusal.Refusal.{Refusal}
use Rattle.listing.specs.Lines.{frames_held}
use Rattle.state.specs.Soundness.{fresh}
use Rattle.state.specs.declared.State.{State}
use Rattle.accumulation.specs.declared.GapDecision.TheVariants.{Joins}
use Rattle.state.specs.declared.deciding.Taken.{Taken}
use Rattle.reader.specs.Buffers.{Buffers}
use Rattle.stream.specs.Running.{Call, Reader, trace_of, accumulations}
use Rattle.stream.specs.Demand.{cells_listed}

-- "A reader that refuses everything"
abbrev pub RefusesAll : Reader → Type 0
RefusesAll R = (s : State) (b : Buffers) (r : List ℕ) → 0 < refused_number (R.steps s b r).result.answer

-- "and one with a fixed answer"
abbrev pub FixedAnswer : Reader → Result Taken Refusal → Type 0
FixedAnswer R x = (s : State) (b : Buffers) (r : List ℕ) → (R.steps s b r).result.answer ≡ x

-- "One that accepts and stores nothing": whatever it answers and reports, every buffer stays as found
pub record StoresNothing (R : Reader) : Type 0 where
  pub steps : (s : State) (b : Buffers) (r : List ℕ) → (R.steps s b r).left ≡ b
  pub finishes : (s : State) (b : Buffers) → (R.finishes s b).left ≡ b

-- the call for a first record, and that for the next
abbrev pub first_call : Reader → Buffers → List ℕ → Call
first_call R b r = R.steps fresh b r

abbrev pub next_call : Reader → Buffers → List ℕ → List ℕ → Call
next_call R b r x = R.steps (first_call R b r).result.state (first_call R b r).left x

-- "One that handles the first record and then only nods": once the first was accepted, what that call left stays, and the next
-- closes nothing
pub record Nods (R : Reader) : Type 0 where
  pub state : (b : Buffers) (r x : List ℕ) → refused_number (first_call R b r).result.answer ≡ 0
      → (next_call R b r x).result.state ≡ (first_call R b r).result.state
  pub left : (b : Buffers) (r x : List ℕ) → refused_number (first_call R b r).result.answer ≡ 0 → (next_call R b r x).left ≡ (first_call R b r).left
  pub closes : (b : Buffers) (r x : List ℕ) → refused_number (first_call R b r).result.answer ≡ 0
      → (next_call R b r x).result.closed.accumulation ≡ None

-- "One that never joins": by demand 2 it never says so, by demand 3 no accumulation that it hands out has two frames
abbrev pub NeverSaysJoins : Reader → Type 0
NeverSaysJoins R = (s : State) (b : Buffers) (r : List ℕ) (t : Taken) → (R.steps s b r).result.answer ≡ Ok t → t.gap ≡ Joins → ⊥

abbrev pub NeverJoins : Reader → Type 0
NeverJoins R = (b : Buffers) (rs : List (List ℕ)) → Every (λ a. frames_held a.report ≤ 1) (accumulations (trace_of R fresh b rs))

-- "Made-up frame or cell counts": the cells listed are as many whatever was fed, or each accumulation has as many frames
abbrev pub MadeUp : Reader → Type 0
MadeUp R = (b : Buffers) (rs rs' : List (List ℕ)) → cells_listed (trace_of R fresh b rs) ≡ cells_listed (trace_of R fresh b rs')

abbrev pub FixedFrames : Reader → ℕ → Type 0
FixedFrames R n = (b : Buffers) (rs : List (List ℕ)) → Every (λ a. frames_held a.report ≡ n) (accumulations (trace_of R fresh b rs))
