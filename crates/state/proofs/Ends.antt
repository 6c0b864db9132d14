-- What finish decides, as the code comes to it.
-- Assumes nothing.
use mathlib.Core.Path.{◌≡◌, ap, ◌∙◌}
use mathlib.Core.Bool.{Bool, true, false, ◌&&◌}
use Prim.Native.Nat.{ℕ}
use Rattle.state.specs.Soundness.{sound}
use Rattle.record.specs.Refusals.{refusal_number, numbered, table}
use Rattle.record.specs.Rules.{refused_number}
use Rattle.state.specs.Ending.{unended, ending, ended_of, EndedIs}
use Rattle.state.specs.declared.State.{State}
use Rattle.state.specs.declared.ending.Ended.{Ended}

unfoldable number_of : Ended → ℕ
number_of x = refused_number x.finished.ending

module _ (s : State) (sized : Bool) (x : Ended) where
  pub is_unended : (sized && sound s) ≡ false → x ≡ unended s → EndedIs s sized x
  unfolding ended_of refused_number refusal_number numbered table number_of
  is_unended e q = record { is = q ∙ rw e; number = ap number_of q ∙ rw e }

  pub is_ended : (sized && sound s) ≡ true → x ≡ ending s → EndedIs s sized x
  unfolding ended_of refused_number number_of
  is_ended e q = record { is = q ∙ rw e; number = ap number_of q ∙ rw e }
