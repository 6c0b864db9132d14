-- A test at every number below n, and at some number below n.
-- Assumes nothing.
use Rattle.std.specs.Prelude.{ℕ, zero, suc, Bool, true, false, ◌||◌}

-- both hold; shut, so that a long test stays as it is written
unfoldable pub both : Bool → Bool → Bool
both true b = b
both false b = false

-- the test f passes at each number below n
abbrev pub upto : (ℕ → Bool) → ℕ → Bool
upto f zero = true
upto f (suc n) = both (f n) (upto f n)

-- the test f passes at a number below n; shut, as n may be large
unfoldable pub somewhere : (ℕ → Bool) → ℕ → Bool
somewhere f zero = false
somewhere f (suc n) = f n || somewhere f n
