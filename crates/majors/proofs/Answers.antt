-- The answers that the tests on the way lead to.
-- Assumes nothing.
use mathlib.Core.Path.{◌≡◌, refl, ap, ◌∙◌}
use mathlib.Core.Bool.{Bool, true, false, cond, ◌&&◌}
use mathlib.Core.List.{List}
use Prim.Native.Nat.{ℕ, ◌<◌}
use lib.Dec.{eqb, ltb}
use lib.IntN.{ℤ}
use lib.ListN.{length}
use borrow.Author.Tests.{ltb-true}
use Rattle.std.specs.Prelude.{Option, Some, None, Result, Ok, Err, ok_or}
use Rattle.std.specs.Result.{result_ok}
use Rattle.prelude.proofs.Conds.{two}
use Rattle.mag.specs.Samples.{samples_size}
use Rattle.cells.specs.Words.{said, answer_said}
use Rattle.cells.specs.declared.missing.Missing.{Missing}
use Rattle.cells.specs.declared.missing.Missing.TheVariants.{Absent, NoSuchPlace}
use Rattle.major.specs.Major.{slots, major_samples}
use Rattle.majors.specs.Questions.{is_place, AnswerIs}

-- a place has its slot
pub place_slot : (samples : List ℤ) (s k : ℕ) → is_place samples s k ≡ true → s < slots
unfolding is_place
place_slot samples s k e =
    ltb-true s slots (two (ltb s slots) (ltb k samples_size) (two (eqb (length samples) major_samples) (ltb s slots && ltb k samples_size) e).1).0

-- whether there is a value, told of an answer that gives it where a test holds
module _ {A : Type 0} (b : Bool) (v : A) (m : Missing) where
  pub ok_told : (w : A) → cond b (Ok v) (Err m) ≡ Ok w → (b ≡ true) × (w ≡ v)
  ok_told w = go b
    where
      go : (t : Bool) → cond t (Ok v) (Err m) ≡ Ok w → (t ≡ true) × (w ≡ v)
      go true e = (refl, cc)
      go false e = cc

  pub err_told : (n : Missing) → cond b (Ok v) (Err m) ≡ Err n → (b ≡ false) × (n ≡ m)
  err_told n = go b
    where
      go : (t : Bool) → cond t (Ok v) (Err m) ≡ Err n → (t ≡ false) × (n ≡ m)
      go true e = cc
      go false e = (refl, cc)

  pub ok_or_told : (o : Option A) (x : Result A Missing) → o ≡ cond b (Some v) None → x ≡ ok_or o m → x ≡ cond b (Ok v) (Err m)
  ok_or_told o x e f = f ∙ rw e (go b)
    where
      go : (t : Bool) → ok_or (cond t (Some v) None) m ≡ cond t (Ok v) (Err m)
      go true = refl
      go false = refl

module _ {A : Type 0} (place held : Bool) (v : A) where
  -- words and value follow from the answer
  answer_is : (x : Result A Missing) → x ≡ cond place (cond held (Ok v) (Err Absent)) (Err NoSuchPlace) → AnswerIs place held v x
  unfolding answer_said
  answer_is x e = record { is = e; words = ap answer_said e ∙ w place held; value = ap result_ok e ∙ r place held }
    where
      w : (p h : Bool) → answer_said {A = A} (cond p (cond h (Ok v) (Err Absent)) (Err NoSuchPlace)) ≡ said p h true
      w true true = refl
      w true false = refl
      w false h = refl

      r : (p h : Bool) → result_ok {T = A} {E = Missing} (cond p (cond h (Ok v) (Err Absent)) (Err NoSuchPlace)) ≡ cond (p && h) (Some v) None
      r true true = refl
      r true false = refl
      r false h = refl

  pub nowhere : place ≡ false → AnswerIs place held v (Err NoSuchPlace)
  nowhere e = answer_is (Err NoSuchPlace) (rw e)

  pub there : (x : Result A Missing) → place ≡ true → x ≡ cond held (Ok v) (Err Absent) → AnswerIs place held v x
  there x e h = answer_is x (rw e h)
