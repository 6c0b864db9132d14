-- The old reader's guard can't hit: types rise strictly inside an accumulation, and the table has each cell once (02, request 11).
-- Assumes nothing.
use mathlib.Core.Path.{◌≡◌, refl, sym, ap, ◌∙◌}
use mathlib.Core.Bool.{Bool, true, false, not, ◌&&◌, true≢false}
use mathlib.Core.List.{List}
use Prim.Native.Nat.{ℕ, ◌<◌}
use native.Mathlib.Omega.{arith}
use borrow.Author.Tests.{eqb-true, eq-eqb}
use Rattle.prelude.specs.Marks.{bit_set, highest}
use Rattle.prelude.specs.Rules.{rule, holds_in, all_hold, of_part}
use Rattle.prelude.proofs.Conds.{cases, two}
use Rattle.prelude.proofs.Order.{idle_behind}
use Rattle.prelude.proofs.Upto.{somewhere_at, nowhere}
use Rattle.record.specs.Frame.{carries_science}
use Rattle.record.specs.Layout.{packet_bytes}
use Rattle.record.specs.Rules.{rules}
use Rattle.carriage.specs.Carriage.{types, cells, place, carrier}
use Rattle.carriage.proofs.EachCell.{place_cell, carrier_place, had_is}
use Rattle.accumulation.specs.Accumulation.{joins}
use Rattle.accumulation.specs.Soundness.{frames_among}
use Rattle.accumulation.specs.declared.Accumulation.{Accumulation}
use Rattle.accumulation.proofs.Facts.{frames, types_rise}
use Rattle.state.specs.Soundness.{sound}
use Rattle.state.specs.Deciding.{Input, fields_of, count_at, state_holds, reader_rules, number_of, decided_as, decided_of}
use Rattle.state.specs.declared.State.{State}
use Rattle.state.specs.declared.deciding.Decided.{Decided}
use Rattle.state.proofs.Facts.{facts}
use Rattle.state.proofs.Decisions.{exactly}
use Rattle.state.proofs.Told.{science_type}
use Rattle.reader.specs.Buffers.{Buffers, worked}
use Rattle.reader.specs.Guard.{carries_cell, cell_held, already_held, input_type, joins_open, guard_holds, guarded_rules, guarded_number, guarded_of, unsound}
use Rattle.reader.specs.Guard.{CellsByMark, ByMark, CantHit, CanHit, Is13, SameStep, No13}
use Rattle.reader.specs.Steps.{input, stepped}

-- no two types carry one cell
only : (t u p : ℕ) → t < types → u < types → carries_cell t p ≡ true → carries_cell u p ≡ true → t ≡ u
only t u p h l e f = cc (eqb-true (carrier p) t (sym (had_is t p h) ∙ e), eqb-true (carrier p) u (sym (had_is u p l) ∙ f))

-- a cell of a type that isn't held is held by no other type
unheld : (held u p : ℕ) → u < types → bit_set held u ≡ false → (carries_cell u p && cell_held held p) ≡ false
unheld held u p h s = go (carries_cell u p) refl
  where
    none : carries_cell u p ≡ true → (t : ℕ) → t < types → (bit_set held t && carries_cell t p) ≡ false
    none e t l = each (bit_set held t) (carries_cell t p) refl refl
      where
        each : (a c : Bool) → bit_set held t ≡ a → carries_cell t p ≡ c → (a && c) ≡ false
        each true true m f = absurd (true≢false (sym m ∙ ap (bit_set held) (only t u p l h f e) ∙ s))
        each true false m f = refl
        each false c m f = refl

    go : (c : Bool) → carries_cell u p ≡ c → (c && cell_held held p) ≡ false
    go true e = nowhere _ types (none e)
    go false e = refl

-- a type that is held has its first cell held
own : (held u : ℕ) → u < types → bit_set held u ≡ true → (carries_cell u (place u 0) && cell_held held (place u 0)) ≡ true
own held u h s =
    let p = place u 0 in
    let c = had_is u p h ∙ eq-eqb (carrier p) u (carrier_place u 0 h (omega arith)) in
    let k : cell_held held p ≡ true = somewhere_at _ types u h (rw (s, c)) in
    rw (c, k)

pub cells_by_mark : CellsByMark
unfolding already_held
cells_by_mark held u h =
    cases (bit_set held u)
    (λ s. rw s (somewhere_at _ cells (place u 0) (place_cell u 0 h (omega arith)) (own held u h s)))
    (λ s. rw s (nowhere _ cells (λ p l. unheld held u p h s)))

-- a frame with science is of one of the 36 types
pub by_mark : ByMark
unfolding guard_holds
by_mark i = go (carries_science (fields_of i).kind) (science_type i.bytes)
  where
    go : (c : Bool) → (c ≡ true → input_type i < types)
        → not (c && (joins_open i && already_held i.state.accumulation.held (input_type i)))
        ≡ not (c && (joins_open i && bit_set i.state.accumulation.held (input_type i)))
    go true t = rw (cells_by_mark i.state.accumulation.held (input_type i) (t refl))
    go false t = refl

-- a frame that joins is of a type that isn't held
free : (a : Accumulation) (u d : ℕ) → frames_among a ≡ true → joins a u d ≡ true → bit_set a.held u ≡ false
free a u d f e = cases (bit_set a.held u) (λ s. rw s (absurd (omega (arith, types_rise a u d f e u s)))) (λ s. rw s)

among : (s : State) → sound s ≡ true → frames_among s.accumulation ≡ true
among s e = (frames s.clock s.accumulation (facts s e).accumulation).among

pub cant_hit : CantHit
cant_hit s e b r = by_mark i ∙ go (carries_science (fields_of i).kind) (joins_open i) refl
  where
    i : Input
    i = input s b r

    go : (c j : Bool) → joins_open i ≡ j → not (c && (j && bit_set s.accumulation.held (input_type i))) ≡ true
    go true true q = rw (free s.accumulation (input_type i) (count_at i) (among s e) q)
    go true false q = refl
    go false j q = refl

hits : (c : Bool) (a : Accumulation) (u d : ℕ) → c ≡ true → a ≡ unsound → u ≡ 6 → d ≡ 101
    → not (c && (joins a u d && bit_set a.held u)) ≡ false
unfolding joins
hits c a u d p q r s = cc

pub can_hit : CanHit
unfolding frames_among highest
can_hit i a c u d = (go (sound i.state) refl, by_mark i ∙ hits _ i.state.accumulation _ _ c a u d)
  where
    go : (b : Bool) → sound i.state ≡ b → b ≡ false
    go true e = sym (among i.state e) ∙ ap frames_among a
    go false e = refl

pub is_13 : Is13
unfolding holds_in guarded_rules reader_rules rules of_part
is_13 i = refl

-- rule 1 stands before the guard
passes : (i : Input) → all_hold reader_rules i ≡ true → sound i.state ≡ true
unfolding all_hold reader_rules state_holds
passes i e = (two i.sized (sound i.state) (two (i.sized && sound i.state) _ e).0).1

module _ (s : State) (b : Buffers) (r : List ℕ) where
  abbrev i : Input
  i = input s b r

  number_same : guarded_number i ≡ number_of i
  unfolding guarded_rules number_of
  number_same = idle_behind reader_rules (rule 13 guard_holds) i (λ e. cant_hit s (passes i e) b r)

  decided_same : guarded_of i ≡ decided_of i
  unfolding decided_of
  decided_same = ap (decided_as i) number_same

  left_same : worked (guarded_of i).works (packet_bytes r) b ≡ stepped s b r
  left_same = ap (λ (y : Decided). worked y.works (packet_bytes r) b) decided_same

  result_same : (guarded_of i).stepped ≡ (decided_of i).stepped
  result_same = ap (λ (y : Decided). y.stepped) decided_same

pub same_step : SameStep
same_step s b r x b' = (
  λ g. record { result = g.result ∙ result_same s b r; number = g.number ∙ number_same s b r; left = g.left ∙ left_same s b r },
  λ w. record {
    result = w.result ∙ sym (result_same s b r);
    number = w.number ∙ sym (number_same s b r);
    left = w.left ∙ sym (left_same s b r);
  },
)

pub no_13 : No13
unfolding holds_in reader_rules rules of_part
no_13 s b r x b' is e = true≢false (((exactly (input s b r)).fails 13).0 (sym is.number ∙ e, omega arith)).0
