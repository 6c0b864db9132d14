-- What step and finish answer over C's structs.
-- Assumes nothing.
use Rattle.std.specs.Prelude.{ℕ, cond, List, ◌≡◌, Result, Ok, Err, ⊤}
use Rattle.record.specs.Refusals.{refusal_number}
use Rattle.record.specs.declared.refusal.Refusal.{Refusal}
use Rattle.state.specs.Deciding.{number_of, decided_of}
use Rattle.state.specs.Ending.{end_number, ended_of}
use Rattle.state.specs.declared.deciding.Stepped.{Stepped}
use Rattle.state.specs.declared.deciding.Taken.{Taken}
use Rattle.state.specs.declared.ending.Finished.{Finished}
use Rattle.reader.specs.Buffers.{Buffers, sized}
use Rattle.reader.specs.Steps.{input, stepped, ended}
use Rattle.shapes.specs.States.{is_state, state_in, state_out}
use Rattle.shapes.specs.Closed.{closed_out, report_out}
use Rattle.shapes.specs.declared.states.CState.{CState}
use Rattle.shapes.specs.declared.closed.CClosed.{CClosed}
use Rattle.shapes.specs.declared.closed.CReport.{CReport}
use Rattle.calls.specs.declared.stepping.CStepped.{CStepped}
use Rattle.calls.specs.declared.stepping.CFinished.{CFinished}

-- an answer, and what stands behind the two pointers after it
abbrev pub handed_back : ℕ → CState → CReport → CStepped
handed_back n s p = record { answer = n; state = s; report = p }

abbrev pub back_closed : ℕ → CState → CClosed → CFinished
back_closed n s c = record { answer = n; state = s; closed = c }

-- of an accepted record the state after it and its report; a refusal leaves both as found
abbrev pub handed_by : Result Taken Refusal → Stepped → CState → CReport → CStepped
handed_by (Err e) x s p = handed_back (refusal_number e) s p
handed_by (Ok t) x s p = handed_back 0 (state_out x.state) (report_out t x.closed)

unfoldable pub handed : Stepped → CState → CReport → CStepped
handed x = handed_by x.answer x

abbrev pub handed_end : Result ⊤ Refusal → Finished → CState → CClosed → CFinished
handed_end (Err e) x s c = back_closed (refusal_number e) s c
handed_end (Ok _) x s c = back_closed 0 (state_out x.state) (closed_out x.closed)

unfoldable pub handed_closed : Finished → CState → CClosed → CFinished
handed_closed x = handed_end x.ending x

-- rule 1 for what is no state; else what the reader decides, handed over. The buffers are as the reader leaves them, and as found for what
-- is no state
pub record StepGiven (s : CState) (p : CReport) (b : Buffers) (r : List ℕ) (y : CStepped) (b' : Buffers) : Type 0 where
  pub number : y.answer ≡ cond (is_state s) (number_of (input (state_in s) b r)) 1
  pub result : y ≡ cond (is_state s) (handed (decided_of (input (state_in s) b r)).stepped s p) (handed_back 1 s p)
  pub left : b' ≡ cond (is_state s) (stepped (state_in s) b r) b

-- finish: rule 1 for what is no state; else what the reader ends with, handed over. The buffers are as the reader leaves them, and as found
-- for what is no state
pub record FinishGiven (s : CState) (c : CClosed) (b : Buffers) (y : CFinished) (b' : Buffers) : Type 0 where
  pub number : y.answer ≡ cond (is_state s) (end_number (state_in s) (sized b)) 1
  pub result : y ≡ cond (is_state s) (handed_closed (ended_of (state_in s) (sized b)).finished s c) (back_closed 1 s c)
  pub left : b' ≡ cond (is_state s) (ended (state_in s) b) b
