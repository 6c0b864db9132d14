-- What is handed out of an answer: what the functions promise that the rooms for C share. No exported promise rests on it.
-- Assumes nothing.
use Rattle.std.specs.Prelude.{ℕ, ◌≡◌, Result, Ok, Err}
use Rattle.std.specs.Result.{result_unwrap_or}
use Rattle.cells.specs.Words.{answer_said}
use Rattle.cells.specs.declared.missing.Missing.{Missing}
use Rattle.counts.specs.declared.Range.{Range}
use Rattle.electrons.specs.Questions.{count_said}
use Rattle.electrons.specs.declared.questions.Unknown.{Unknown}
use Rattle.c_answers.specs.Answers.{words_number}

-- the value that an answer gives, or what was lent as found
pub record Handed {A : Type 0} (r : Result A Missing) (old : A) (n : ℕ) (new : A) : Type 0 where
  pub number : n ≡ words_number (answer_said r)
  pub written : new ≡ result_unwrap_or r old

-- an end of the range that an answer gives, or the number lent as found
abbrev pub end_of : (Range → ℕ) → Result Range Unknown → ℕ → ℕ
end_of end (Ok r) old = end r
end_of end (Err u) old = old

pub record CountHanded (x : Result Range Unknown) (low high n low' high' : ℕ) : Type 0 where
  pub number : n ≡ words_number (count_said x)
  pub low_written : low' ≡ end_of (λ (r : Range). r.low) x low
  pub high_written : high' ≡ end_of (λ (r : Range). r.high) x high
