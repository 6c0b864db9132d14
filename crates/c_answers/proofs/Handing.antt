-- What is handed out of an answer is what the exported functions promise.
-- Assumes nothing.
use mathlib.Core.Path.{◌≡◌, refl, ap, ◌∙◌}
use mathlib.Core.Bool.{Bool, true, false, cond, ◌&&◌}
use Prim.Native.Nat.{ℕ}
use Rattle.std.specs.Prelude.{Result, Ok, Err}
use Rattle.std.specs.Result.{result_unwrap_or}
use Rattle.counts.specs.declared.Range.{Range}
use Rattle.cells.specs.Bytes.{raw_of, RawIs}
use Rattle.cells.specs.Words.{said, answer_said}
use Rattle.cells.specs.declared.missing.Missing.{Missing}
use Rattle.cells.specs.declared.missing.Missing.TheVariants as missing
use Rattle.electrons.specs.Questions.{Asked, answer, asked_words, gives, CountIs}
use Rattle.electrons.specs.declared.questions.Unknown.{Unknown}
use Rattle.electrons.specs.declared.questions.Unknown.TheVariants.{ScaleUnknown, Absent, NoSuchPlace}
use Rattle.c_answers.specs.Answers.{words_number, ValueGiven, AskedGiven}
use Rattle.c_answers.specs.Handing.{Handed, end_of, CountHanded}

-- a value, by whether there is such a place, and whether what carries it is held
abbrev pub value_of : {A : Type 0} → Bool → Bool → A → Result A Missing
value_of place held v = cond place (cond held (Ok v) (Err missing.Absent)) (Err missing.NoSuchPlace)

pub value_told : {A : Type 0} (place held : Bool) (v old : A) (n : ℕ) (new : A) (r : Result A Missing) → r ≡ value_of place held v → Handed r old n new
    → ValueGiven place held v old n new
unfolding answer_said
value_told place held v old n new r is g = record {
  number = g.number ∙ ap (λ x. words_number (answer_said x)) is ∙ number place held;
  written = g.written ∙ ap (λ x. result_unwrap_or x old) is ∙ value place held;
}
  where
    number : (s t : Bool) → words_number (answer_said (value_of s t v)) ≡ words_number (said s t true)
    number true true = refl
    number true false = refl
    number false t = refl

    value : (s t : Bool) → result_unwrap_or (value_of s t v) old ≡ cond (s && t) v old
    value true true = refl
    value true false = refl
    value false t = refl

-- a raw byte
pub byte_told : (place held : Bool) (b old n new : ℕ) (r : Result ℕ Missing) → RawIs place held b r → Handed r old n new → ValueGiven place held b old n new
unfolding raw_of
byte_told place held b old n new r is = value_told place held b old n new r is.is

-- the questions: an end of the range, which is answered with 0
end_is : (end : Range → ℕ) (q : Asked) (old : ℕ) → end_of end (answer q) old ≡ cond (gives q) (end q.range) old
end_is end q old = go q.place q.held q.known
  where
    go : (x y z : Bool) → end_of end (cond x (cond y (cond z (Ok q.range) (Err ScaleUnknown)) (Err Absent)) (Err NoSuchPlace)) old
        ≡ cond (x && (y && z)) (end q.range) old
    go true true true = refl
    go true true false = refl
    go true false z = refl
    go false y z = refl

number_is : (q : Asked) → words_number (asked_words q) ≡ cond (gives q) 0 (words_number (asked_words q))
unfolding words_number
number_is q = go q.place q.held q.known
  where
    go : (x y z : Bool) → words_number (said x y z) ≡ cond (x && (y && z)) 0 (words_number (said x y z))
    go true true true = refl
    go true true false = refl
    go true false z = refl
    go false y z = refl

pub count_told : (q : Asked) (x : Result Range Unknown) (low high n low' high' : ℕ)
    → CountIs q x → CountHanded x low high n low' high' → AskedGiven q low high n low' high'
count_told q x low high n low' high' is g = record {
  number = g.number ∙ ap words_number is.says ∙ number_is q;
  low_written = g.low_written ∙ ap (λ (y : Result Range Unknown). end_of (λ (r : Range). r.low) y low) is.is ∙ end_is (λ (r : Range). r.low) q low;
  high_written = g.high_written ∙ ap (λ (y : Result Range Unknown). end_of (λ (r : Range). r.high) y high) is.is ∙ end_is (λ (r : Range). r.high) q high;
}
