-- Two kinds of jump that must not be confused (02, request 1): a record that was delayed, and a count that restarts. One table, and
-- what a row of it says. Proved of every row by `all_jumps` in proofs/Jumps.antt.
-- Assumes nothing.
use Rattle.std.specs.Prelude.{ℕ, ◌+◌, ◌*◌, List, [], ◌∷◌, ◌≡◌, Result, Ok, Err}
use Rattle.record.specs.declared.refusal.Refusal.{Refusal}
use Rattle.record.specs.declared.refusal.Refusal.TheVariants.{NotLater, PastTurns}
use Rattle.clock.specs.Clock.{circle, arrival_at, accepted, unset}
use Rattle.clock.specs.declared.Clock.{Clock}

-- a clock, a record's own count, and what becomes of the record
pub data Jump : Type 0 where
  jump : Clock → ℕ → Result ℕ Refusal → Jump

unfoldable pub Jumps : Jump → Type 0
Jumps (jump c n a) = arrival_at c n ≡ a

unfoldable pub jump_table : List Jump
jump_table =
    -- the first record has turn 0, whatever its count
    jump unset 16777215 (Ok 16777215)
    -- the next count, the same once more, and one that was delayed by five counts
    ∷ jump (accepted 100) 101 (Ok 101)
    ∷ jump (accepted 100) 100 (Err NotLater)
    ∷ jump (accepted 100) 95 (Err NotLater)
    -- a restart at 0; a record delayed by five counts just before it, and one just after it, from before the restart
    ∷ jump (accepted 16777215) 0 (Ok circle)
    ∷ jump (accepted 16777215) 16777210 (Err NotLater)
    ∷ jump (accepted (circle + 3)) 16777214 (Err NotLater)
    -- as far ahead as a later record lies, and one count more, across the turn and within one
    ∷ jump (accepted 16777215) 8388606 (Ok (circle + 8388606))
    ∷ jump (accepted 16777215) 8388607 (Err NotLater)
    ∷ jump (accepted 0) 8388607 (Ok 8388607)
    ∷ jump (accepted 0) 8388608 (Err NotLater)
    -- the last turn: its counts are accepted, a restart is not, and what isn't later is refused with 12
    ∷ jump (accepted (4094 * circle + 16777215)) 0 (Ok (4095 * circle))
    ∷ jump (accepted (4095 * circle + 5)) 6 (Ok (4095 * circle + 6))
    ∷ jump (accepted (4095 * circle + 5)) 4 (Err NotLater)
    ∷ jump (accepted (4095 * circle + 16777215)) 0 (Err PastTurns)
    ∷ jump (accepted (4095 * circle + 16777215)) 8388606 (Err PastTurns)
    ∷ jump (accepted (4095 * circle + 16777215)) 8388607 (Err NotLater)
    ∷ []
