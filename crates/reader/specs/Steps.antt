-- Step and finish: what is decided (state/Deciding, state/Ending), and what is then done to the buffers.
-- Assumes nothing.
use Rattle.std.specs.Prelude.{ℕ, List, [], ◌≡◌}
use Rattle.record.specs.Layout.{packet_bytes}
use Rattle.record.specs.Rules.{refused_number}
use Rattle.state.specs.Deciding.{Input, number_of, decided_of}
use Rattle.state.specs.Ending.{ended_of, end_number}
use Rattle.state.specs.declared.State.{State}
use Rattle.state.specs.declared.deciding.Stepped.{Stepped}
use Rattle.state.specs.declared.ending.Finished.{Finished}
use Rattle.reader.specs.Buffers.{Buffers, sized, worked}

-- what a step is handed, as decisions see it
abbrev pub input : State → Buffers → List ℕ → Input
input s b r = record { state = s; sized = sized b; bytes = r }

-- the buffers after a step
abbrev pub stepped : State → Buffers → List ℕ → Buffers
stepped s b r = worked (decided_of (input s b r)).works (packet_bytes r) b

-- the answer with the next state and what closed, and the content of the buffers
pub record StepIs (s : State) (b : Buffers) (r : List ℕ) (x : Stepped) (b' : Buffers) : Type 0 where
  pub result : x ≡ (decided_of (input s b r)).stepped
  pub number : refused_number x.answer ≡ number_of (input s b r)
  pub left : b' ≡ stepped s b r

-- the buffers after finish, which has no packet
abbrev pub ended : State → Buffers → Buffers
ended s b = worked (ended_of s (sized b)).works [] b

pub record FinishIs (s : State) (b : Buffers) (x : Finished) (b' : Buffers) : Type 0 where
  pub result : x ≡ (ended_of s (sized b)).finished
  pub number : refused_number x.ending ≡ end_number s (sized b)
  pub left : b' ≡ ended s b
