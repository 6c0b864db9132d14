-- One outcome: any two that the promise of step, or of finish, allows are equal, the answer and the content of the buffers.
-- Assumes nothing.
use mathlib.Core.Path.{◌≡◌}
use mathlib.Core.List.{List}
use Prim.Native.Nat.{ℕ}
use Rattle.prelude.proofs.Single.{one}
use Rattle.state.specs.declared.State.{State}
use Rattle.state.specs.declared.deciding.Stepped.{Stepped}
use Rattle.state.specs.declared.ending.Finished.{Finished}
use Rattle.reader.specs.Buffers.{Buffers}
use Rattle.reader.specs.Steps.{StepIs, FinishIs}

module _ (s : State) (b : Buffers) {b₁ b₂ : Buffers} where
  pub one_step : (r : List ℕ) (x y : Stepped) → StepIs s b r x b₁ → StepIs s b r y b₂ → (x ≡ y) × (b₁ ≡ b₂)
  one_step r x y p q = (one p.result q.result, one p.left q.left)

  pub one_finish : (x y : Finished) → FinishIs s b x b₁ → FinishIs s b y b₂ → (x ≡ y) × (b₁ ≡ b₂)
  one_finish x y p q = (one p.result q.result, one p.left q.left)
