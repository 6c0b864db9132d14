-- Counts from codes (01, "Counts"; 000, section 2.6).
-- Assumes nothing.
use Rattle.std.specs.Prelude.{ℕ, ◌+◌, ◌*◌, ◌-◌, ◌/◌, ◌%◌, ◌^◌, ◌<◌, ◌≤◌, cond, ◌≡◌, eqb, ◌≢◌, Result, MatchResult}
use Rattle.counts.specs.declared.codes.Divided.{Divided}
use Rattle.counts.specs.declared.codes.NoDivisor.{NoDivisor}
use Rattle.counts.specs.declared.codes.Divided.TheVariants.{By1, By8, By16}
use Rattle.counts.specs.declared.Range.{Range}

-- "For e = 0 the count is m. Otherwise it lies from (16 + m) x 2^(e-1) to (17 + m) x 2^(e-1) - 1", where e is c / 16 rounded
-- down and m is c mod 16
unfoldable pub code_low : ℕ → ℕ
code_low c = cond (eqb (c / 16) 0) (c % 16) ((16 + c % 16) * 2 ^ (c / 16 - 1))

unfoldable pub code_high : ℕ → ℕ
code_high c = cond (eqb (c / 16) 0) (c % 16) ((17 + c % 16) * 2 ^ (c / 16 - 1) - 1)

-- the count n lies in the range of code c
abbrev pub Lies : ℕ → ℕ → Type 0
Lies c n = (code_low c ≤ n) × (n ≤ code_high c)

-- "Every count from 0 to 524,287 lies in exactly one code's range."
abbrev pub coded_counts : ℕ
coded_counts = 524288

pub record OneCode (n : ℕ) : Type 0 where
  pub code : ℕ
  pub byte : code < 256
  pub lies : Lies code n
  pub only : (c : ℕ) → c < 256 → Lies c n → c ≡ code

-- what the counts were divided by, and cut off, before they were compressed: pre-scaled samples by 8, Total and Rate by 16
-- (000, section 2.3.1)
unfoldable pub divisor : Divided → ℕ
divisor By1 = 1
divisor By8 = 8
divisor By16 = 16

-- what has a number for its divisor, where something has
abbrev pub IsNoDivisor : ℕ → Type 0
IsNoDivisor n = (d : Divided) → divisor d ≢ n

abbrev pub DividedIs : ℕ → Result Divided NoDivisor → Type 0
DividedIs n r = MatchResult r (λ d. divisor d ≡ n) (λ _. IsNoDivisor n)

-- "8 x low to 8 x high + 7"; "16 x low to 16 x high + 15"; undivided, low to high
abbrev pub times : ℕ → ℕ → Range
times n c = record { low = n * code_low c; high = n * code_high c + (n - 1) }

unfoldable pub range_of : ℕ → Divided → Range
range_of c d = times (divisor d) c
