-- One outcome: any two that the promise of `step` allows are equal. The others promise an equation (`one` of prelude/Single).
-- Assumes nothing.
use mathlib.Core.Path.{◌≡◌}
use mathlib.Core.Bool.{Bool}
use Prim.Native.Nat.{ℕ}
use Rattle.major.specs.Place.{SteppedIs}
use Rattle.major.specs.declared.Major.{Major}
use Rattle.major.specs.declared.MajorStep.{MajorStep}

pub one_step : (m : Major) (d : ℕ) (mag : Bool) (range word : ℕ) (x y : MajorStep)
    → SteppedIs m d mag range word x → SteppedIs m d mag range word y → x ≡ y
one_step m d mag range word x y p q = cc
