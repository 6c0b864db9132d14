-- Marks kept as the bits of a number: bit k, of weight 2^k, is the mark of k.
-- Assumes nothing.
use Rattle.std.specs.Prelude.{ℕ, ◌+◌, ◌/◌, ◌%◌, ◌^◌, Bool, eqb}

abbrev pub bit_set : ℕ → ℕ → Bool
bit_set n k = eqb (n / 2 ^ k % 2) 1

-- the highest mark set is k: from bit k upwards the number is 1
unfoldable pub highest : ℕ → ℕ → Bool
highest n k = eqb (n / 2 ^ k) 1

-- the mark of k, not set so far, set beside the others
unfoldable pub marked : ℕ → ℕ → ℕ
marked n k = n + 2 ^ k
