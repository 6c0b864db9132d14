-- One answer, and one content of the room: any two outcomes that a promise allows are equal. (lpmag_burst_range promises an equation:
-- `one` of tables is its law. Those about a snapshot are `one_value` and `one_range` of c_answers.)
-- Assumes nothing.
use mathlib.Core.Path.{◌≡◌}
use mathlib.Core.List.{List}
use Prim.Native.Nat.{ℕ}
use lib.IntN.{ℤ}
use Rattle.prelude.proofs.Single.{one}
use Rattle.c_bursts.specs.Seconds.{BurstSamplesGiven}

pub one_samples : (r : List ℕ) (which : ℕ) (room : List ℤ) (k n : ℕ) (a b : List ℤ)
    → BurstSamplesGiven r which room k a → BurstSamplesGiven r which room n b → (k ≡ n) × (a ≡ b)
one_samples r which room k n a b x y = (one x.number y.number, one x.written y.written)
