-- Numbers as decimal digits.
-- Assumes nothing.
use Rattle.std.specs.Prelude.{ℕ, zero, suc, ◌+◌, ◌-◌, ◌*◌, ◌/◌, ◌%◌, cond, List, [], ◌∷◌, ◌++◌, ltb}

-- the ASCII code of a number below 10
abbrev pub digit : ℕ → ℕ
digit d = 48 + d

-- the last k digits at most: of a number below 10 its digit; of any other those of its tenth part, rounded down, and then the last
abbrev pub decimal_in : ℕ → ℕ → List ℕ
decimal_in zero n = []
decimal_in (suc k) n = cond (ltb n 10) (digit n ∷ []) (decimal_in k (n / 10) ++ (digit (n % 10) ∷ []))

-- the most digits of a 64-bit number
abbrev pub digits : ℕ
digits = 20

unfoldable pub decimal : ℕ → List ℕ
decimal n = decimal_in digits n

-- the number that digits stand for, after those that stand for m
abbrev pub value_after : ℕ → List ℕ → ℕ
value_after m [] = m
value_after m (d ∷ ds) = value_after (10 * m + (d - 48)) ds

abbrev pub value : List ℕ → ℕ
value ds = value_after 0 ds
