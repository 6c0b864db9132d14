-- The numbers of the exported functions' answers, and what is then in what was lent to them.
-- Assumes nothing.
use Rattle.std.specs.Prelude.{ℕ, Bool, true, cond, ◌&&◌, List, ◌≡◌, eqb, length}
use Rattle.cells.specs.Words.{Words, no_such_place, absent, scale_unknown, given, said}
use Rattle.counts.specs.declared.Range.{Range}
use Rattle.electrons.specs.Questions.{Asked, asked_words, gives}
use Rattle.record.specs.Rules.{broken}

-- LPMAG_NO_SUCH_PLACE
abbrev pub nowhere : ℕ
nowhere = 128

-- LPMAG_ABSENT
abbrev pub not_held : ℕ
not_held = 129

-- LPMAG_SCALE_UNKNOWN
abbrev pub unscaled : ℕ
unscaled = 130

-- LPMAG_TOO_LARGE
abbrev pub too_large : ℕ
too_large = 131

-- LPMAG_NO_SUCH_BIN
abbrev pub no_such_bin : ℕ
no_such_bin = 132

-- 01's words as include/lpmag.h numbers them: LPMAG_NO_SUCH_PLACE, LPMAG_ABSENT, LPMAG_SCALE_UNKNOWN, 0
unfoldable pub words_number : Words → ℕ
words_number no_such_place = nowhere
words_number absent = not_held
words_number scale_unknown = unscaled
words_number given = 0

-- a room of the size given is asked for, and a record: 1 for a room of another size, else the record's number (01, "Numbers a
-- refused record gets"); the room has the value where the number is 0, and is as found where it isn't
pub record Given (size : ℕ) (value r room : List ℕ) (n : ℕ) (room' : List ℕ) : Type 0 where
  pub number : n ≡ cond (eqb (length room) size) (broken r) 1
  pub written : room' ≡ cond (eqb n 0) value room

-- a value where it has a place and is held; else the number of 01's words, and the number lent as found
pub record ValueGiven {ℓ} {A : Type ℓ} (place held : Bool) (value old : A) (n : ℕ) (new : A) : Type ℓ where
  pub number : n ≡ words_number (said place held true)
  pub written : new ≡ cond (place && held) value old

-- a range where the test holds, with the answer 0; else another answer and the numbers lent as found
pub record RangeGiven (holds : Bool) (other : ℕ) (r : Range) (low high n low' high' : ℕ) : Type 0 where
  pub number : n ≡ cond holds 0 other
  pub low_written : low' ≡ cond holds r.low low
  pub high_written : high' ≡ cond holds r.high high

-- an answer of the questions about counts: the range, or the number of 01's words
abbrev pub AskedGiven : Asked → ℕ → ℕ → ℕ → ℕ → ℕ → Type 0
AskedGiven q = RangeGiven (gives q) (words_number (asked_words q)) q.range
