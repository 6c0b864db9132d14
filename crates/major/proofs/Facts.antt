-- What a major frame that passes its part of the list is known to be.
-- Assumes nothing.
use mathlib.Core.Path.{◌≡◌, refl, sym, ◌∙◌}
use mathlib.Core.Bool.{Bool, true, false, not, ◌||◌, false≢true}
use Prim.Native.Nat.{ℕ, ◌+◌, ◌/◌, ◌^◌, ◌<◌, ◌≤◌}
use native.Mathlib.Omega.{arith}
use lib.Dec.{eqb}
use lib.ListN.{get_or}
use lib.Pow.{pow_mono}
use borrow.Author.Tests.{eqb-true, eq-eqb, ne_eqb}
use Rattle.prelude.proofs.Conds.{two, second}
use Rattle.prelude.specs.Marks.{bit_set, highest}
use Rattle.prelude.proofs.Marks.{highest_high, bits_above}
use Rattle.prelude.proofs.Upto.{upto_true}
use Rattle.clock.specs.Clock.{begun}
use Rattle.clock.specs.declared.Clock.{Clock}
use Rattle.clock.proofs.Laws.{has_begun}
use Rattle.major.specs.Major.{continues, major_open, slot_of}
use Rattle.major.specs.Soundness.{mag_among, range_fits, range_kept, word_kept, slot_test, slot_holds, slots_hold, major_now, no_slot, major_sound}
use Rattle.major.specs.Place.{Free}
use Rattle.major.specs.declared.Major.{Major}

-- the clauses, each by itself
pub record Slots (c : Clock) (m : Major) : Type 0 where
  pub slots : slots_hold m ≡ true
  pub current : major_now c m ≡ true
  pub empty : no_slot m ≡ true
  pub start : begun c m.slots ≡ true

pub slots_of : (c : Clock) (m : Major) → major_sound c m ≡ true → Slots c m
unfolding major_sound
slots_of c m e =
    let p = two (slots_hold m) _ e in
    let q = two (major_now c m) _ p.1 in
    let r = two (no_slot m) _ q.1 in
    record { slots = p.0; current = q.0; empty = r.0; start = r.1 }

pub is_sound : (c : Clock) (m : Major) → Slots c m → major_sound c m ≡ true
unfolding major_sound
is_sound c m f = cc

-- number and highest slot of an open major frame
pub current_slot : (c : Clock) (m : Major) → major_now c m ≡ true → (m.slots ≡ 0 → ⊥)
    → (m.number ≡ c.last / 16) × (highest m.slots (slot_of c.last) ≡ true)
unfolding major_now
current_slot c m e z = let b = two _ _ (second _ _ (ne_eqb m.slots 0 z) e) in (eqb-true _ _ b.0, b.1)

pub slot_clauses : (m : Major) (i : ℕ) → slots_hold m ≡ true → i < 16 → slot_holds m i ≡ true
unfolding slots_hold
slot_clauses m i e h = upto_true (slot_holds m) 16 e i h

-- the four tests of a slot
pub record Well (m : Major) (i : ℕ) : Type 0 where
  pub among : mag_among m.slots m.mag_slots i ≡ true
  pub fits : range_fits (get_or m.ranges i 0) ≡ true
  pub range : range_kept m.mag_slots (get_or m.ranges i 0) i ≡ true
  pub word : word_kept m.slots (get_or m.words i 0) i ≡ true

pub well_facts : (m : Major) (i : ℕ) → slot_holds m i ≡ true → Well m i
unfolding slot_holds slot_test
well_facts m i e =
    let a = two (mag_among m.slots m.mag_slots i) _ e in
    let b = two (range_fits (get_or m.ranges i 0)) _ a.1 in
    let c = two (range_kept m.mag_slots (get_or m.ranges i 0) i) _ b.1 in
    record { among = a.0; fits = b.0; range = c.0; word = c.1 }

pub mag_among_lem : (m : Major) (i : ℕ) → slot_holds m i ≡ true → bit_set m.slots i ≡ false → bit_set m.mag_slots i ≡ false
mag_among_lem m i e h = go (bit_set m.mag_slots i) refl (well_facts m i e).among
  where
    go : (t : Bool) → bit_set m.mag_slots i ≡ t → (not t || bit_set m.slots i) ≡ true → bit_set m.mag_slots i ≡ false
    go false t _ = t
    go true t q = cc

is_open_lem : (m : Major) → major_open m ≡ true → m.slots ≡ 0 → ⊥
is_open_lem m e q = let y : not (eqb m.slots 0) ≡ false = rw eq-eqb in false≢true (sym y ∙ e)

-- a later count of the same major frame has a higher slot
pub is_free : (c : Clock) (m : Major) (d : ℕ) → major_sound c m ≡ true → (c.any ≡ true → c.last < d) → continues m d ≡ true → Free m d
unfolding continues
is_free c m d e above t =
    let f = slots_of c m e in
    let p = two (major_open m) _ t in
    let z = is_open_lem m p.0 in
    let n : m.number ≡ d / 16 = eqb-true _ _ p.1 in
    let k = current_slot c m f.current z in
    let h = highest_high m.slots (slot_of c.last) k.1 in
    let l = above (has_begun c m.slots f.start z) in
    let j : slot_of c.last + 1 ≤ slot_of d = omega arith in
    let b : m.slots < 2 ^ slot_of d = omega (arith, pow_mono j) in
    (b, λ i p q. mag_among_lem m i (slot_clauses m i f.slots q) (bits_above m.slots i (omega (arith, pow_mono p))))
