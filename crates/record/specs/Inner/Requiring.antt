-- One rule of a record, held to its test.
-- Assumes nothing.
use Rattle.std.specs.Prelude.{Bool, cond, ℕ, List, ◌≡◌, length, Result, Ok, Err, ⊤}
use Rattle.std.specs.Borrow.{Bor}
use Rattle.record.specs.Layout.{size}
use Rattle.record.specs.declared.refusal.Refusal.{Refusal}
use Rattle.record.specs.declared.refusal.Refusal.TheVariants.{Length}

-- refused where the rule doesn't hold
abbrev pub required : Bool → Refusal → Result ⊤ Refusal
required holds e = cond holds (Ok tt) (Err e)

-- rule 2: the record itself, of its size, or the refusal
abbrev pub SizedIs : List ℕ → Result (Bor (List ℕ)) Refusal → Type 0
SizedIs r (Ok b) = (b.now ≡ r) × (length r ≡ size)
SizedIs r (Err e) = (e ≡ Length) × (length r ≡ size → ⊥)
