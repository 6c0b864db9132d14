-- The accumulation's part of the state list (01, "Numbers a refused record gets"), clause by clause.
-- Assumes nothing.
use Rattle.std.specs.Prelude.{◌+◌, ◌-◌, ◌^◌, Bool, not, ◌&&◌, ◌||◌, eqb, ltb, leb}
use Rattle.std.specs.Int.Count.{ones}
use Rattle.prelude.specs.Marks.{highest}
use Rattle.clock.specs.Clock.{full_counts, begun}
use Rattle.clock.specs.declared.Clock.{Clock}
use Rattle.accumulation.specs.declared.Accumulation.{Accumulation}

-- "counts below 2^24": full ones, so "below 2^36" (02, request 1)
unfoldable pub counts_below : Accumulation → Bool
counts_below a = ltb a.first full_counts && ltb a.last_count full_counts

-- "frames held among 36, the highest being the last type"
unfoldable pub frames_among : Accumulation → Bool
frames_among a = ltb a.held (2 ^ 36) && (eqb a.held 0 || highest a.held a.last_type)

-- "first count plus frames held minus 1 is at most the last real-time count"
unfoldable pub frames_fit : Accumulation → Bool
frames_fit a = leb (a.first + ones a.held - 1) a.last_count

-- "that plus the "other" frames since is at most the last accepted count"
unfoldable pub others_fit : Clock → Accumulation → Bool
others_fit c a = leb (a.last_count + a.others) c.last

-- "With no accumulation open, its numbers are 0"
unfoldable pub none_open : Accumulation → Bool
none_open a =
    not (eqb a.held 0)
    || (eqb a.first 0 && (eqb a.last_type 0 && (eqb a.last_count 0 && eqb a.others 0)))

-- "Until something is accepted, all is 0": no frame is held, and so the other numbers are 0 too. "An open accumulation holds at
-- least one frame" is what open means here
unfoldable pub accumulation_sound : Clock → Accumulation → Bool
accumulation_sound c a =
    counts_below a && (frames_among a && (frames_fit a && (others_fit c a && (none_open a && begun c a.held))))
