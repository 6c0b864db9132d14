-- One answer: any two outcomes that the promise allows are equal.
-- Assumes nothing.
use mathlib.Core.Path.{◌≡◌}
use Prim.Native.Nat.{ℕ}
use Rattle.std.specs.Prelude.{Option}
use Rattle.angles.specs.Angles.{AngleIs}

pub one_angle : (a p : ℕ) (r s : Option ℕ) → AngleIs a p r → AngleIs a p s → r ≡ s
one_angle a p r s x y = cc
