-- The sum of two ranges: where a count of the one plus a count of the other lies.
-- Assumes nothing.
use Rattle.std.specs.Prelude.{◌+◌, ◌^◌, Bool, cond, ◌&&◌, ◌≡◌, ltb, Option, Some, None}
use Rattle.counts.specs.declared.Range.{Range}

abbrev pub added : Range → Range → Range
added a b = record { low = a.low + b.low; high = a.high + b.high }

-- both ends in 64 bits
unfoldable pub fits64 : Range → Bool
fits64 r = ltb r.low (2 ^ 64) && ltb r.high (2 ^ 64)

-- one answer: the range, and none where it is too large
abbrev pub SumIs : Range → Range → Option Range → Type 0
SumIs a b s = s ≡ cond (fits64 (added a b)) (Some (added a b)) None
