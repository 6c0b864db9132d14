-- Which state is fed.
-- Assumes nothing.
use Rattle.std.specs.Prelude.{Bool, cond, Option, Some, None}
use Rattle.state.specs.declared.State.{State}
use Rattle.shapes.specs.States.{state_in}
use Rattle.shapes.specs.declared.states.CState.{CState}
use Rattle.calls.specs.Feeding.{ready_by}

-- the state, where rule 1 holds
unfoldable pub ready_state : CState → Bool → Option State
ready_state s sized = cond (ready_by s sized) (Some (state_in s)) None
