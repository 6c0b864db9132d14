-- What is said of the state list (01, "Numbers a refused record gets"): the fresh state passes it, and so does every state that is
-- handed back from one that passes.
-- Assumes nothing.
use Rattle.std.specs.Prelude.{Bool, true, ◌≡◌}
use Rattle.major.specs.Shape.{Shaped}
use Rattle.state.specs.Soundness.{sound}
use Rattle.state.specs.Deciding.{Input, decided_of}
use Rattle.state.specs.Ending.{ended_of}
use Rattle.state.specs.declared.State.{State}

-- a state that passes the list, of the shape that its type gives it
pub record Sound (s : State) : Type 0 where
  pub passes : sound s ≡ true
  pub shaped : Shaped s.major

abbrev pub StepKeeps : Input → Type 0
StepKeeps i = Sound i.state → Sound (decided_of i).stepped.state

abbrev pub EndKeeps : State → Bool → Type 0
EndKeeps s sized = Sound s → Sound (ended_of s sized).finished.state
