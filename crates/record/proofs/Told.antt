-- What a caller learns from an answer: laws on the promises of `check` and `fields`.
-- Assumes nothing.
use mathlib.Core.Path.{◌≡◌, sym, ap, ◌∙◌}
use mathlib.Core.List.{List}
use Prim.Native.Nat.{ℕ}
use native.Mathlib.Omega.{arith}
use lib.ListN.{length, length-take, length-drop}
use borrow.Author.Tests.{eq-eqb}
use Rattle.record.specs.Layout.{size, packet_size, packet_bytes}
use Rattle.record.proofs.Opened.{sized}
use Rattle.std.specs.Prelude.{Result, Ok, Err, ⊤}
use Rattle.record.specs.Refusals.{refusal_number}
use Rattle.record.specs.Rules.{broken, refused_number, VerdictIs}
use Rattle.record.specs.Contents.{record_of, contents_of, ContentsIs}
use Rattle.record.specs.Parts.{packet_of}
use Rattle.record.specs.declared.Record.{Record}
use Rattle.record.specs.declared.refusal.Refusal.{Refusal}

module _ (r : List ℕ) (v : Result ⊤ Refusal) (is : VerdictIs r v) where
  pub passes_told : v ≡ Ok tt → 0 ≡ broken r
  unfolding refused_number
  passes_told e = sym (ap refused_number e) ∙ is.number

  pub refused_told : (n : Refusal) → v ≡ Err n → refusal_number n ≡ broken r
  unfolding refused_number
  refused_told n e = sym (ap refused_number e) ∙ is.number

module _ (r : List ℕ) (c : Result Record Refusal) (is : ContentsIs r c) where
  -- the fields, of a record that passes
  pub fields_told : (f : Record) → c ≡ Ok f → (broken r ≡ 0) × (f ≡ record_of r)
  unfolding refused_number contents_of
  fields_told f e =
      let z : broken r ≡ 0 = sym is.number ∙ ap refused_number e in
      let k : contents_of r ≡ Ok (record_of r) = rw (eq-eqb (broken r) 0 z) in
      (z, cc is.is)

  -- the number, of a record that doesn't
  pub number_told : (n : Refusal) → c ≡ Err n → (refusal_number n ≡ broken r) × (refusal_number n ≡ 0 → ⊥)
  unfolding refused_number contents_of
  number_told n e =
      let z : refusal_number n ≡ broken r = sym (ap refused_number e) ∙ is.number in (
        z,
        λ o.
            let k : contents_of r ≡ Ok (record_of r) = rw (eq-eqb (broken r) 0 (sym z ∙ o)) in
            let f : ◌≡◌ {A = ℕ} 0 1 = cc is.is in
            omega arith,
      )

-- the packet, of a record that passes
pub packet_told : (r : List ℕ) → broken r ≡ 0 → (packet_of r ≡ packet_bytes r) × (length (packet_bytes r) ≡ packet_size)
packet_told r z =
    let l : length r ≡ size = sized r z in
    (rw (eq-eqb (broken r) 0 z), simp (length-take, length-drop) (omega arith))
