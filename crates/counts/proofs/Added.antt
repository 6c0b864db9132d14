-- A sum holds every sum of a count of the one and a count of the other.
-- Assumes nothing.
use Prim.Native.Nat.{ℕ, ◌+◌, ◌≤◌}
use native.Mathlib.Omega.{arith}
use Rattle.counts.specs.Sums.{added}
use Rattle.counts.specs.declared.Range.{Range}

pub sum_holds : (a b : Range) (x y : ℕ) → a.low ≤ x → x ≤ a.high → b.low ≤ y → y ≤ b.high
    → ((added a b).low ≤ x + y) × (x + y ≤ (added a b).high)
sum_holds a b x y h k l m = omega arith
