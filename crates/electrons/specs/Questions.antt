-- The questions about an accumulation (01, "Counts"): "no such place", "absent", "scale unknown", a range, in this order.
-- Assumes nothing.
use Rattle.std.specs.Prelude.{ℕ, ◌/◌, Bool, true, cond, not, ◌&&◌, ◌||◌, List, ◌≡◌, eqb, ltb, get_or, Option, Some, None, Result, Ok, Err}
use Rattle.std.specs.Result.{result_ok}
use Rattle.counts.specs.Codes.{range_of}
use Rattle.counts.specs.declared.Range.{Range}
use Rattle.counts.specs.declared.codes.Divided.{Divided}
use Rattle.counts.specs.declared.codes.Divided.TheVariants.{By1, By8, By16}
use Rattle.carriage.specs.Carriage.{sample_size, samples_in, sample_cell, three_cell}
use Rattle.cells.specs.Words.{Words, no_such_place, absent, scale_unknown, given, said}
use Rattle.prelude.specs.Marks.{bit_set}
use Rattle.cells.specs.Raw.{holds_cell, askable}
use Rattle.electrons.specs.declared.questions.Unknown.{Unknown}
use Rattle.electrons.specs.declared.questions.Unknown.TheVariants.{ScaleUnknown, Absent, NoSuchPlace}

-- what a question comes to: whether there is such a place, whether its frame is held, whether its scale is known, and the range
-- that is then answered
pub record Asked : Type 0 where
  pub place : Bool
  pub held : Bool
  pub known : Bool
  pub range : Range

abbrev pub answer : Asked → Result Range Unknown
answer q = cond q.place (cond q.held (cond q.known (Ok q.range) (Err ScaleUnknown)) (Err Absent)) (Err NoSuchPlace)

abbrev pub asked_words : Asked → Words
asked_words q = said q.place q.held q.known

-- whether the answer is a range
abbrev pub gives : Asked → Bool
gives q = q.place && (q.held && q.known)

-- the words of an answer
abbrev pub unknown_said : Unknown → Words
unknown_said ScaleUnknown = scale_unknown
unknown_said Absent = absent
unknown_said NoSuchPlace = no_such_place

unfoldable pub count_said : Result Range Unknown → Words
count_said (Ok r) = given
count_said (Err u) = unknown_said u

-- one answer; and its words and range, which follow
pub record CountIs (q : Asked) (x : Result Range Unknown) : Type 0 where
  pub is : x ≡ answer q
  pub says : count_said x ≡ asked_words q
  pub range : result_ok x ≡ cond (gives q) (Some q.range) None

-- a byte whose counts were divided by a known number: of 3D, Total and Rate, and all of a snapshot (000, sections 2.3.1 and 2.4.1)
abbrev pub count_asked : Bool → Bool → ℕ → Divided → Asked
count_asked place held code d = record { place = place; held = held; known = true; range = range_of code d }

-- the header's cells
abbrev pub state_cell : ℕ
state_cell = 1

abbrev pub total_cell : ℕ
total_cell = 2

abbrev pub rate_cell : ℕ
rate_cell = 3

-- how many samples an energy bin has, bin 0-14
abbrev pub samples_of : ℕ → Option ℕ
samples_of b = cond (ltb b 15) (Some (samples_in b)) None

-- a sample: energy bin 0-14, a number below the bin's samples, angle 0-15
abbrev pub has_sample : ℕ → ℕ → ℕ → Bool
has_sample b s a = ltb b 15 && (ltb s (samples_in b) && ltb a sample_size)

-- "Pre-scaling follows header byte 1, bit (bin / 2), but only for bins 0-5, 7 and 8"
abbrev pub scalable : ℕ → Bool
scalable b = ltb b 6 || (eqb b 7 || eqb b 8)

abbrev pub divided_by : List ℕ → ℕ → Divided
divided_by c b = cond (scalable b && bit_set (get_or c state_cell 0) (b / 2)) By8 By1

-- "without the frame that carries the header, those bins answer "scale unknown""
abbrev pub scale_known : ℕ → ℕ → Bool
scale_known held b = not (scalable b) || holds_cell held state_cell

abbrev pub sample_asked : List ℕ → ℕ → ℕ → ℕ → ℕ → Asked
sample_asked c held b s a =
    record {
      place = askable c held && has_sample b s a;
      held = holds_cell held (sample_cell b s a);
      known = scale_known held b;
      range = range_of (get_or c (sample_cell b s a) 0) (divided_by c b);
    }

-- a 3D cell: energy step 0-14, angle 0-87; pre-scaling is of pitch angle data alone (000, section 2.3.1)
abbrev pub has_three : ℕ → ℕ → Bool
has_three e b = ltb e 15 && ltb b 88

abbrev pub three_asked : List ℕ → ℕ → ℕ → ℕ → Asked
three_asked c held e b = count_asked (askable c held && has_three e b) (holds_cell held (three_cell e b)) (get_or c (three_cell e b) 0) By1

-- "Total and Rate (header bytes 2 and 3) are 16 x low to 16 x high + 15"
abbrev pub header_asked : ℕ → List ℕ → ℕ → Asked
header_asked p c held = count_asked (askable c held) (holds_cell held p) (get_or c p 0) By16
