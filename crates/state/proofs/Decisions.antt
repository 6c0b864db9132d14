-- The number that a record gets, and the decision that the code comes to.
-- Assumes nothing.
use mathlib.Core.Path.{◌≡◌, refl, sym, ap, ◌∙◌}
use mathlib.Core.Bool.{Bool, true, false, cond}
use mathlib.Core.List.{List, [], ◌∷◌}
use Prim.Native.Nat.{ℕ, ◌<◌}
use native.Mathlib.Omega.{arith}
use lib.Dec.{eqb}
use lib.ListN.{length, length-take, length-drop}
use borrow.Author.Tests.{eq-eqb, ne_eqb, eqb-true, eqb-false}
use Rattle.prelude.proofs.Conds.{cases}
use Rattle.prelude.specs.Rules.{of_part, first_broken, FirstBroken, rule}
use Rattle.prelude.proofs.Order.{parts_then, first_broken_lem}
use Rattle.record.specs.Layout.{size, packet_size, packet_bytes, mag_bytes}
use Rattle.record.specs.Parts.{PacketAtIs, MagIs}
use Rattle.std.specs.Prelude.{Option, Result, Ok, Err, unwrap_or}
use Rattle.record.specs.Refusals.{refusal_number, numbered, table}
use Rattle.record.specs.Rules.{rules, broken, verdict_of, refused_number}
use Rattle.record.specs.Contents.{record_of, contents_of}
use Rattle.record.specs.declared.Record.{Record}
use Rattle.record.specs.declared.refusal.Refusal.{Refusal}
use Rattle.record.specs.declared.refusal.Refusal.TheVariants.{BufferOrState, NotLater, PastTurns}
use Rattle.record.proofs.Order.{says, one_says, row_says, broken_says}
use Rattle.mag.specs.Samples.{range, mag_sized, RangeIs}
use Rattle.clock.specs.Clock.{arrival_at}
use Rattle.clock.proofs.Laws.{outcome, outcome_is}
use Rattle.state.specs.Deciding.{Input, fields_of, count_at, mag_range, state_holds, clock_holds, turn_holds, reader_rules, number_of}
use Rattle.state.specs.Deciding.{refusal, acceptance, decided_of, DecidedIs}
use Rattle.state.specs.Inner.Accepting.{admitted_as, admitted_of}
use Rattle.state.specs.declared.deciding.Admitted.{Admitted}
use Rattle.state.specs.declared.deciding.Decided.{Decided}

-- rules 12 and 14
abbrev pub late : Input → ℕ
late i = cond (clock_holds i) (cond (turn_holds i) 0 14) 12

pub number_is : (i : Input) → number_of i ≡ cond (state_holds i) (cond (eqb (broken i.bytes) 0) (late i) (broken i.bytes)) 1
unfolding number_of reader_rules first_broken broken rules
number_is i =
    let own = parts_then (λ i. i.bytes) rules (rule 12 clock_holds ∷ rule 14 turn_holds ∷ []) i refl in
    ap (λ n. cond (state_holds i) n 1) own

-- refused with n exactly when rule n fails and those before it in the list hold
pub exactly : (i : Input) → FirstBroken reader_rules i (number_of i)
unfolding number_of reader_rules rules of_part
exactly i = first_broken_lem reader_rules i refl

-- the decision on a record that no rule refuses, and on one that is refused
pub accepted_is : (i : Input) → number_of i ≡ 0 → decided_of i ≡ acceptance i.state (fields_of i) (count_at i) (mag_range i)
unfolding decided_of
accepted_is i e = cc

pub refused_is : (i : Input) → (number_of i ≡ 0 → ⊥) → decided_of i ≡ refusal i.state (number_of i)
unfolding decided_of
refused_is i h = rw ne_eqb

-- each rule's number is in 01's table
number_says : (i : Input) → says (number_of i)
unfolding refused_number refusal_number numbered table verdict_of
number_says i =
    let late_says = one_says (clock_holds i) 12 _ refl (one_says (turn_holds i) 14 0 refl refl) in
    rw number_is (one_says (state_holds i) 1 _ refl (one_says (eqb (broken i.bytes) 0) _ _ (broken_says i.bytes) late_says))

-- the answer's number is that of the decision
answer_says : (i : Input) → refused_number (decided_of i).stepped.answer ≡ number_of i
unfolding refused_number acceptance
answer_says i =
    cases (eqb (number_of i) 0)
    (λ t. let e = eqb-true (number_of i) 0 t in rw (accepted_is i e, e))
    (λ t. let h = eqb-false (number_of i) 0 t in rw (refused_is i h) (row_says (number_of i) (number_says i) (omega arith)))

module _ (i : Input) where
  pub decided_is : (x : Decided) → x ≡ decided_of i → DecidedIs i.state i.sized i.bytes x
  decided_is x e = record { is = e; number = ap (λ (y : Decided). refused_number y.stepped.answer) e ∙ answer_says i }

  abbrev own : Admitted
  own = record { fields = fields_of i; count = count_at i }

  -- a record that is admitted is accepted, and one that isn't is refused
  pub admitted_fields : (x : Admitted) → admitted_of i ≡ Ok x → (number_of i ≡ 0) × (x ≡ own)
  unfolding admitted_of
  admitted_fields x e = go (eqb (number_of i) 0) refl e
    where
      go : (t : Bool) → eqb (number_of i) 0 ≡ t → ◌≡◌ {A = Result Admitted Refusal} (cond t (Ok own) (Err (numbered (number_of i)))) (Ok x)
          → (number_of i ≡ 0) × (x ≡ own)
      go true t e = (eqb-true (number_of i) 0 t, cc)
      go false t e = let y : ◌≡◌ {A = ℕ} 0 1 = cc in absurd (omega arith)

  pub not_admitted : (e : Refusal) → admitted_of i ≡ Err e → (number_of i ≡ 0 → ⊥) × (e ≡ numbered (number_of i))
  unfolding admitted_of
  not_admitted e h = go (eqb (number_of i) 0) refl h
    where
      go : (t : Bool) → eqb (number_of i) 0 ≡ t → ◌≡◌ {A = Result Admitted Refusal} (cond t (Ok own) (Err (numbered (number_of i)))) (Err e)
          → (number_of i ≡ 0 → ⊥) × (e ≡ numbered (number_of i))
      go true t h = let y : ◌≡◌ {A = ℕ} 0 1 = cc in absurd (omega arith)
      go false t h = (eqb-false (number_of i) 0 t, cc)

  -- rule 1
  pub unsound : state_holds i ≡ false → admitted_of i ≡ Err BufferOrState
  unfolding admitted_of numbered table
  unsound e = let n : number_of i ≡ 1 = number_is i ∙ rw e refl in rw n

  module _ (ok : state_holds i ≡ true) where
    -- rules 2 to 11
    pub record_refused : (e : Refusal) → contents_of i.bytes ≡ Err e → admitted_of i ≡ Err e
    unfolding admitted_of contents_of
    record_refused e h = go (eqb (broken i.bytes) 0) refl (number_is i ∙ rw ok refl) h
      where
        go : (t : Bool) → eqb (broken i.bytes) 0 ≡ t → number_of i ≡ cond t (late i) (broken i.bytes)
            → ◌≡◌ {A = Result Record Refusal} (cond t (Ok (fields_of i)) (Err (numbered (broken i.bytes)))) (Err e)
            → admitted_as i (number_of i) ≡ Err e
        go true t n h = let y : ◌≡◌ {A = ℕ} 0 1 = cc in absurd (omega arith)
        go false t n h = let k : numbered (broken i.bytes) ≡ e = cc in rw (n, t, k)

    module _ (p : broken i.bytes ≡ 0) where
      number_late : number_of i ≡ late i
      number_late = number_is i ∙ rw (ok, eq-eqb (broken i.bytes) 0 p)

      -- rules 12 and 14
      pub clock_refused : (e : Refusal) → arrival_at i.state.clock (fields_of i).count ≡ Err e → admitted_of i ≡ Err e
      unfolding admitted_of clock_holds turn_holds numbered table
      clock_refused e h = go (clock_holds i) (turn_holds i) number_late (sym (outcome_is i.state.clock (fields_of i)) ∙ h)
        where
          go : (a b : Bool) → number_of i ≡ cond a (cond b 0 14) 12 → outcome i.state.clock (fields_of i) a b ≡ Err e
              → admitted_as i (number_of i) ≡ Err e
          go true true n h = let y : ◌≡◌ {A = ℕ} 0 1 = cc in absurd (omega arith)
          go true false n h = let k : PastTurns ≡ e = cc in rw (n, k)
          go false b n h = let k : NotLater ≡ e = cc in rw (n, k)

      pub admitted : (d : ℕ) → arrival_at i.state.clock (fields_of i).count ≡ Ok d
          → admitted_of i ≡ Ok (record { fields = fields_of i; count = d })
      unfolding admitted_of clock_holds turn_holds numbered table
      admitted d h = go (clock_holds i) (turn_holds i) number_late (sym (outcome_is i.state.clock (fields_of i)) ∙ h)
        where
          go : (a b : Bool) → number_of i ≡ cond a (cond b 0 14) 12 → outcome i.state.clock (fields_of i) a b ≡ Ok d
              → admitted_as i (number_of i) ≡ Ok (record { fields = fields_of i; count = d })
          go true true n h = let k : count_at i ≡ d = cc in rw (n, k)
          go true false n h = let y : ◌≡◌ {A = ℕ} 0 1 = cc in absurd (omega arith)
          go false b n h = let y : ◌≡◌ {A = ℕ} 0 1 = cc in absurd (omega arith)

-- the range of a record's MAG bytes, from the part that the code finds
module _ (r p m : List ℕ) (h : length r ≡ size) (from at place : ℕ × ℕ) (ep : PacketAtIs r from p at) (em : MagIs p at m place) where
  pub mag_is : m ≡ mag_bytes (packet_bytes r)
  mag_is =
      let e : p ≡ packet_bytes r = ep.bytes ∙ rw eq-eqb in
      let l : length p ≡ packet_size = ap length e ∙ simp (length-take, length-drop) (omega arith) in
      em.bytes ∙ rw (eq-eqb (length p) packet_size l) (ap mag_bytes e)

-- a record of its size has MAG bytes of theirs, and so a range
pub range_told : (r m : List ℕ) → length r ≡ size → m ≡ mag_bytes (packet_bytes r) → (u : Option ℕ) → RangeIs (mag_sized m) m u
    → unwrap_or u 0 ≡ range (mag_bytes (packet_bytes r))
range_told r m h e u is =
    let l : length m ≡ 82 = ap length e ∙ simp (length-take, length-drop) (omega arith) in
    rw (is.is, eq-eqb (length m) 82 l) (ap range e)

pub type_below : (r : List ℕ) → (record_of r).frame_type < 64
unfolding record_of
type_below r = omega arith
