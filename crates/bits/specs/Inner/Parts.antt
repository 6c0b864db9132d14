-- The two bytes that hold a 12-bit number.
-- Assumes nothing.
use Rattle.std.specs.Prelude.{cond, List, ◌≡◌, ℕ, ◌+◌, ◌*◌, ◌/◌, ◌%◌, ◌<◌, leb, length, get_or}

-- the byte that the number at place k has for itself, and the one that it shares with its neighbour; both 0 where the number
-- doesn't lie wholly in b
pub record PartsOf (b : List ℕ) (k whole shared : ℕ) : Type 0 where
  pub whole_is : whole ≡ cond (leb (12 * k + 12) (8 * length b)) (get_or b (k / 2 * 3 + k % 2 * 2) 0) 0
  pub shared_is : shared ≡ cond (leb (12 * k + 12) (8 * length b)) (get_or b (k / 2 * 3 + 1) 0) 0
  pub whole_byte : whole < 256
  pub shared_byte : shared < 256
