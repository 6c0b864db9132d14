-- What is exported about the record beside its rules and fields.
-- Assumes nothing.
use Rattle.std.specs.Prelude.{ℕ, Bool, cond, List, ◌≡◌, length}
use Rattle.buffers.specs.Laying.{patch, has_room}
use Rattle.listing.specs.Refusals.{words_of, meaning_text, meaning_size}

-- LPMAG_VERSION: 2.0
abbrev pub library_version : ℕ
library_version = 200

abbrev pub roomy : List ℕ → Bool
roomy room = has_room (length room) 0 meaning_size

-- in a room of LPMAG_WORDS bytes or more the words for a number and a byte of 0, at its front, and how many the words are; else
-- 0, and the room as found
pub record WordsGiven (number : ℕ) (room : List ℕ) (n : ℕ) (room' : List ℕ) : Type 0 where
  pub size : n ≡ cond (roomy room) (length (words_of number)) 0
  pub written : room' ≡ cond (roomy room) (patch room 0 (meaning_text number)) room
