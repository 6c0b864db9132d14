-- The answers about a finished major frame, as include/lpmag.h numbers them.
-- Assumes nothing.
use mathlib.Core.Path.{◌≡◌, refl, sym, ap, ◌∙◌}
use mathlib.Core.Bool.{Bool, true, false, cond, ◌&&◌}
use mathlib.Core.List.{List}
use native.Mathlib.Omega.{arith}
use Prim.Native.Nat.{ℕ}
use lib.Ieee.{Float}
use lib.IntN.{ℤ}
use lib.ListN.{get_or}
use Rattle.std.specs.Prelude.{Result, Ok, Err}
use Rattle.std.specs.Result.{result_unwrap_or}
use Rattle.cells.specs.Words.{answer_said}
use Rattle.cells.specs.declared.missing.Missing.{Missing}
use Rattle.cells.specs.declared.missing.Missing.TheVariants.{Absent, NoSuchPlace}
use Rattle.mag.specs.Field.{FieldIs}
use Rattle.majors.specs.Questions.{stored, AnswerIs, SampleIs, WordIs, NominalIs}
use Rattle.shapes.specs.Frames.{major_in}
use Rattle.shapes.specs.declared.frames.CMajor.{CMajor}
use Rattle.c_answers.specs.Answers.{words_number, ValueGiven}
use Rattle.c_answers.specs.Handing.{Handed}
use Rattle.calls.specs.Frames.{WordGiven, SampleGiven, NominalGiven}

-- what is handed out of an answer
handed_value : {A : Type 0} (place held : Bool) (v old : A) (x : Result A Missing) (n : ℕ) (new : A)
    → AnswerIs place held v x → Handed x old n new → ValueGiven place held v old n new
handed_value place held v old x n new is h = record {
  number = h.number ∙ ap words_number is.words;
  written = h.written ∙ ap (λ y. result_unwrap_or y old) is.is ∙ go place held;
}
  where
    go : (p q : Bool) → result_unwrap_or (cond p (cond q (Ok v) (Err Absent)) (Err NoSuchPlace)) old ≡ cond (p && q) v old
    go true true = refl
    go true false = refl
    go false q = refl

module _ (c : CMajor) where
  pub word_told : (s old : ℕ) (x : Result ℕ Missing) (n new : ℕ) → WordIs (major_in c) s x → Handed x old n new → WordGiven c s old n new
  word_told s old x n new is h = handed_value _ _ _ old x n new is h

  module _ (samples : List ℤ) (s k : ℕ) where
    pub sample_told : (old : ℤ) (x : Result ℤ Missing) (n : ℕ) (new : ℤ) → SampleIs (major_in c) samples s k x → Handed x old n new
        → SampleGiven c samples s k old n new
    sample_told old x n new is h = handed_value _ _ _ old x n new is h

    pub nominal_told : (old : Float) (x : Result Float Missing) (n : ℕ) (new : Float) → NominalIs (major_in c) samples s k x → Handed x old n new
        → NominalGiven c samples s k old n new
    unfolding answer_said words_number
    nominal_told old x n new is h = record {
      given = handed_value _ _ _ old x n new is.answer h;
      exact = λ z. go x refl (sym h.number ∙ z) h.written;
    }
      where
        go : (y : Result Float Missing) → x ≡ y → words_number (answer_said y) ≡ 0 → new ≡ result_unwrap_or y old
            → FieldIs (stored samples s k) (get_or c.ranges s 0) new
        go (Ok v) q e w = rw w (is.exact v q)
        go (Err Absent) q e w = absurd (omega arith)
        go (Err NoSuchPlace) q e w = absurd (omega arith)
