-- What is said of a refused record: which it is, the number, and what the number means.
-- Assumes nothing.
use Rattle.std.specs.Prelude.{ℕ, ◌+◌, List, [], ◌∷◌, ◌++◌, get_or}
use Prim.Native.String.{String}
use Rattle.listing.specs.Text.{ascii, space}
use Rattle.listing.specs.Decimal.{decimal, digits}
use Rattle.listing.specs.Lines.{spaced}

-- 01, "Numbers a refused record gets": the second column, by the number; of 12 and 14 what 02 says that they mean (request 1), and of
-- 11 what it adds (request 2). 0 is no number and has no words, and 13 is none that an answer has (02, request 11)
abbrev pub words : List String
words =
    ""
    ∷ "a lent buffer isn't of its size, or the state breaks the list below"
    ∷ "length isn't 472"
    ∷ "sync differs"
    ∷ "version or spacecraft differs"
    ∷ "rate differs"
    ∷ "byte 9 isn't 0"
    ∷ "day outside 1-366"
    ∷ "millisecond above 86,399,999"
    ∷ "a spare status bit is set"
    ∷ "a flag is 00 or 11"
    ∷ "type is 58-61, or a second type other than 36 to 57 and 62"
    ∷ "something was accepted before and the record isn't later"
    ∷ ""
    ∷ "a turn past 4,095"
    ∷ []

unfoldable pub words_of : ℕ → List ℕ
words_of rule = ascii (get_or words rule "")

-- the longest of them
abbrev pub words_size : ℕ
words_size = 67

-- the words with a byte of 0 after them, as C has a text, and what is asked to be free for it
unfoldable pub meaning_text : ℕ → List ℕ
meaning_text rule = words_of rule ++ (0 ∷ [])

abbrev pub meaning_size : ℕ
meaning_size = 80

-- the record, counted from 0, and where it begins in the input
unfoldable pub record_place : ℕ → ℕ → List ℕ
record_place n offset = ascii "record" ++ spaced n (ascii " at byte" ++ (space ∷ decimal offset))

abbrev pub place_size : ℕ
place_size = 6 + (1 + digits) + 8 + (1 + digits)

unfoldable pub refusal_line : ℕ → ℕ → ℕ → List ℕ
refusal_line n offset rule = record_place n offset ++ (ascii ": refused with" ++ spaced rule (ascii ": " ++ (words_of rule ++ ascii "\n")))

abbrev pub refusal_size : ℕ
refusal_size = place_size + 14 + (1 + digits) + 2 + words_size + 1
