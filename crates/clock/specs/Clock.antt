-- The reader's clock: what "later" means, the turns, at which full count a record stands, and the clock's part of the state list
-- (01, "Numbers a refused record gets"; 02, request 1). No decision looks at a record's own count but through this room.
-- Assumes nothing.
use Rattle.std.specs.Prelude.{ℕ, ◌+◌, ◌-◌, ◌*◌, ◌/◌, ◌%◌, Bool, true, false, cond, not, ◌&&◌, ◌||◌, eqb, ltb, leb, Result, Ok, Err}
use Rattle.record.specs.declared.Record.{Record}
use Rattle.record.specs.declared.refusal.Refusal.{Refusal}
use Rattle.record.specs.declared.refusal.Refusal.TheVariants.{NotLater, PastTurns}
use Rattle.clock.specs.declared.Clock.{Clock}

-- 2^24: a record's own count is below it, and goes round
abbrev pub circle : ℕ
circle = 16777216

-- "a turn number, 0 to 4,095"
abbrev pub turns : ℕ
turns = 4096

-- a full count, "Turn x 2^24 + count", is "below 2^36"
abbrev pub full_counts : ℕ
full_counts = turns * circle

-- the turn of a full count, and the record's own: its 24 bits
abbrev pub turn_of : ℕ → ℕ
turn_of d = d / circle

abbrev pub own_of : ℕ → ℕ
own_of d = d % circle

-- "(count minus last) modulo 2^24"; nothing is cut off at 0, since the last own count is below 2^24
abbrev pub ahead : Clock → ℕ → ℕ
ahead c n = (n + circle - own_of c.last) % circle

-- the most counts that a later record lies ahead
abbrev pub farthest : ℕ
farthest = 8388607

-- "A record is later when (count minus last) modulo 2^24 lies in 1 to 8,388,607". 12: "something was accepted before and" it isn't
unfoldable pub later : Clock → ℕ → Bool
later c n = not c.any || (leb 1 (ahead c n) && leb (ahead c n) farthest)

-- "the first accepted record has turn 0"; "a lower count that is later adds a turn"
unfoldable pub turn_at : Clock → ℕ → ℕ
turn_at c n = cond c.any (turn_of c.last + cond (ltb (own_of n) (own_of c.last)) 1 0) 0

-- 14: "a turn past 4,095"; whether the record is later is 12's
unfoldable pub turn_fits : Clock → ℕ → Bool
turn_fits c n = ltb (turn_at c n) turns

-- the full count at which a record with count n stands: "Turn x 2^24 + count"
unfoldable pub count_of : Clock → ℕ → ℕ
count_of c n = turn_at c n * circle + own_of n

unfoldable pub arrival_at : Clock → ℕ → Result ℕ Refusal
arrival_at c n = cond (later c n) (cond (turn_fits c n) (Ok (count_of c n)) (Err PastTurns)) (Err NotLater)

-- of a record, by the count in its fields: whether it is later, whether its turn fits, and its full count
unfoldable pub is_later : Clock → Record → Bool
is_later c f = later c f.count

unfoldable pub has_turn : Clock → Record → Bool
has_turn c f = turn_fits c f.count

unfoldable pub dated : Clock → Record → ℕ
dated c f = count_of c f.count

-- the clock once a record at full count d was accepted
abbrev pub accepted : ℕ → Clock
accepted d = record { any = true; last = d }

abbrev pub unset : Clock
unset = record { any = false; last = 0 }

-- "Until something is accepted, all is 0": of one number
abbrev pub begun : Clock → ℕ → Bool
begun c n = c.any || eqb n 0

-- the clock's part of the state list: with the last count its turn is 0 until something is accepted
unfoldable pub clock_sound : Clock → Bool
clock_sound c = ltb c.last full_counts && begun c c.last
