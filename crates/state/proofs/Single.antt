-- One outcome: any two that a promise allows are equal. `sound`, `no_major` and `fresh` promise an equation (`one` of
-- prelude/Single).
-- Assumes nothing.
use mathlib.Core.Path.{◌≡◌}
use mathlib.Core.Bool.{Bool}
use mathlib.Core.List.{List}
use Prim.Native.Nat.{ℕ}
use Rattle.state.specs.Deciding.{DecidedIs}
use Rattle.state.specs.Ending.{EndedIs}
use Rattle.state.specs.declared.State.{State}
use Rattle.state.specs.declared.deciding.Decided.{Decided}
use Rattle.state.specs.declared.ending.Ended.{Ended}

pub one_decision : (s : State) (sized : Bool) (r : List ℕ) (x y : Decided) → DecidedIs s sized r x → DecidedIs s sized r y → x ≡ y
one_decision s sized r x y p q = cc

pub one_end : (s : State) (sized : Bool) (x y : Ended) → EndedIs s sized x → EndedIs s sized y → x ≡ y
one_end s sized x y p q = cc
