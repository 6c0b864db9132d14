-- 01's numbers of a refused record ("Numbers a refused record gets"; 02, request 1).
-- Assumes nothing.
use Rattle.std.specs.Prelude.{ℕ, ◌-◌, List, [], ◌∷◌, get_or, Option, Some, None}
use Rattle.record.specs.declared.refusal.Refusal.{Refusal}
use Rattle.record.specs.declared.refusal.Refusal.TheVariants.{BufferOrState, Length, Sync, Spacecraft, Rate, Spare, Day, Millisecond, StatusSpare, Flag}
use Rattle.record.specs.declared.refusal.Refusal.TheVariants.{FrameType, NotLater, OldGuard, PastTurns}

-- the first column of 01's table, of each row
unfoldable pub refusal_number : Refusal → ℕ
refusal_number BufferOrState = 1
refusal_number Length = 2
refusal_number Sync = 3
refusal_number Spacecraft = 4
refusal_number Rate = 5
refusal_number Spare = 6
refusal_number Day = 7
refusal_number Millisecond = 8
refusal_number StatusSpare = 9
refusal_number Flag = 10
refusal_number FrameType = 11
refusal_number NotLater = 12
refusal_number OldGuard = 13
refusal_number PastTurns = 14

-- the number of a refusal, or 0 where there is none
unfoldable pub number_or_0 : Option Refusal → ℕ
number_or_0 None = 0
number_or_0 (Some e) = refusal_number e

-- 01's table, from number 1 on
unfoldable pub table : List Refusal
table =
    BufferOrState
    ∷ Length
    ∷ Sync
    ∷ Spacecraft
    ∷ Rate
    ∷ Spare
    ∷ Day
    ∷ Millisecond
    ∷ StatusSpare
    ∷ Flag
    ∷ FrameType
    ∷ NotLater
    ∷ OldGuard
    ∷ PastTurns
    ∷ []

-- the row of a number of the table
unfoldable pub numbered : ℕ → Refusal
numbered n = get_or table (n - 1) PastTurns
