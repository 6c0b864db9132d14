-- What is lent after each outcome of a question.
-- Assumes nothing.
use mathlib.Core.Path.{◌≡◌, refl, sym, subst}
use mathlib.Core.Bool.{Bool, true, false, cond}
use mathlib.Core.List.{List}
use Prim.Native.Nat.{ℕ}
use lib.ListN.{length}
use borrow.Author.Tests.{eq-eqb, ne_eqb}
use Rattle.record.specs.Rules.{broken}
use Rattle.c_answers.specs.Answers.{nowhere, not_held, words_number, Given, ValueGiven}

-- a question for a record
module _ (size : ℕ) (value r room : List ℕ) where
  pub wrong_room : (length room ≡ size → ⊥) → Given size value r room 1 room
  wrong_room h = record { number = rw (ne_eqb (length room) size h); written = refl }

  pub refused : length room ≡ size → (n : ℕ) → n ≡ broken r → (n ≡ 0 → ⊥) → Given size value r room n room
  refused h n e z = record { number = rw (eq-eqb (length room) size h) e; written = rw (ne_eqb n 0 z) }

  pub given_in : length room ≡ size → 0 ≡ broken r → (room' : List ℕ) → room' ≡ value → Given size value r room 0 room'
  given_in h z room' e = record { number = rw (eq-eqb (length room) size h) z; written = e }

-- an answer of three: the value, "absent", "no such place"
pub told {ℓ} : {A X : Type ℓ} (place held : Bool) (v old : A) (code : X → ℕ) (value : X → A) (a b c x : X)
    → x ≡ cond place (cond held a b) c → code a ≡ 0 → code b ≡ not_held → code c ≡ nowhere → value a ≡ v → value b ≡ old → value c ≡ old
    → ValueGiven place held v old (code x) (value x)
unfolding words_number
told place held v old code value a b c x e p q r f g h =
    subst (λ y. ValueGiven place held v old (code y) (value y)) (sym e) (go place held)
  where
    go : (s t : Bool) → ValueGiven s t v old (code (cond s (cond t a b) c)) (value (cond s (cond t a b) c))
    go true true = record { number = p; written = f }
    go true false = record { number = q; written = g }
    go false t = record { number = r; written = h }
