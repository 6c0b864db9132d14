-- The open major frame keeps its part of the state list.
-- Assumes nothing.
use mathlib.Core.Path.{◌≡◌, refl, sym, subst, subst⁻¹, ◌∙◌}
use mathlib.Core.Bool.{Bool, true, false, cond, not, ◌&&◌, or-true}
use mathlib.Core.List.{List}
use Prim.Native.Nat.{ℕ, ◌+◌, ◌^◌, ◌<◌, ◌≤◌}
use native.Mathlib.Omega.{arith}
use lib.Dec.{eqb}
use lib.ListN.{length, replicate, get_or, length-set, length-replicate, get_or-replicate}
use lib.Pow.{pow_mono, pow_pos}
use lib.Seq.{ext_get_or, get_or-set_same, get_or-set_other}
use borrow.Author.Tests.{eqb-true, eqb-false, eq-eqb, ne_eqb, le-leb}
use Rattle.prelude.specs.Marks.{bit_set, highest, marked}
use Rattle.prelude.proofs.Marks.{highest_marked, marked_own, marked_other, marked_below, bits_above, below}
use Rattle.prelude.proofs.Conds.{cases, second}
use Rattle.prelude.proofs.Upto.{upto_all}
use Rattle.clock.specs.Clock.{accepted}
use Rattle.clock.specs.declared.Clock.{Clock}
use Rattle.clock.proofs.Laws.{not_begun}
use Rattle.major.specs.Major.{major_number, slot_of, no_major, continues, into, stays, major_renews, step_major}
use Rattle.major.specs.Soundness.{slot_test, slot_holds, slots_hold, major_now, no_slot, major_sound}
use Rattle.major.specs.Shape.{Shaped}
use Rattle.major.specs.declared.Major.{Major}
use Rattle.major.proofs.Facts.{Slots, slots_of, is_sound, slot_clauses, well_facts, mag_among_lem, is_free}
use Rattle.major.proofs.Parts.{low_marks}

-- a frame that a slot can go into
pub record Room (m : Major) (u : ℕ) : Type 0 where
  pub slots : m.slots < 2 ^ u
  pub mags : m.mag_slots < 2 ^ u
  pub well : (i : ℕ) → i < 16 → slot_holds m i ≡ true
  pub shaped : Shaped m

pub shaped_none : Shaped no_major
shaped_none = omega arith

pub none_well : (i : ℕ) → i < 16 → slot_holds no_major i ≡ true
unfolding slot_holds slot_test
none_well i h = rw (bits_above 0 i (pow_pos i), get_or-replicate)

pub room_none : (u : ℕ) → Room no_major u
room_none u = record { slots = pow_pos u; mags = pow_pos u; well = none_well; shaped = shaped_none }

module _ (m : Major) (d : ℕ) (t : Room m (slot_of d)) (g w : ℕ) (hg : g ≤ 7) where
  small : slot_of d < 16
  small = omega arith

  slot_here : (mag : Bool) → slot_holds (into m d mag g w) (slot_of d) ≡ true
  unfolding slot_holds slot_test into
  slot_here true =
      let len : slot_of d < length m.ranges = omega arith in
      let own = marked_own m.slots (slot_of d) t.slots in
      rw (get_or-set_same m.ranges (slot_of d) g 0 len, le-leb g 7 hg, marked_own m.mag_slots (slot_of d) t.mags, own)
  slot_here false =
      let f = well_facts m (slot_of d) (t.well (slot_of d) small) in
      let q = bits_above m.mag_slots (slot_of d) t.mags in
      let z = rw q at f.range in
      rw (f.fits, q, z, marked_own m.slots (slot_of d) t.slots)

  slot_there : (mag : Bool) (i : ℕ) → i < 16 → (i ≡ slot_of d → ⊥) → slot_holds (into m d mag g w) i ≡ true
  unfolding slot_holds slot_test into
  slot_there true i h n =
      let range = get_or-set_other m.ranges (slot_of d) i g 0 n in
      let word = get_or-set_other m.words (slot_of d) i w 0 n in
      rw (range, word, marked_other m.mag_slots (slot_of d) i t.mags n, marked_other m.slots (slot_of d) i t.slots n) (t.well i h)
  slot_there false i h n =
      rw (get_or-set_other, marked_other m.slots (slot_of d) i t.slots n) (t.well i h)

  slots_well : (mag : Bool) (i : ℕ) → i < 16 → slot_holds (into m d mag g w) i ≡ true
  slots_well mag i h =
      cases (eqb i (slot_of d))
      (λ e. subst (λ (j : ℕ). slot_holds (into m d mag g w) j ≡ true) (sym (eqb-true i (slot_of d) e)) (slot_here mag))
      (λ e. slot_there mag i h (eqb-false i (slot_of d) e))

  slots_some : (mag : Bool) → (into m d mag g w).slots ≡ 0 → ⊥
  unfolding into marked
  slots_some mag e = omega arith

  here : (mag : Bool) → (eqb (into m d mag g w).number (major_number d) && highest (into m d mag g w).slots (slot_of d)) ≡ true
  unfolding into
  here mag = rw eq-eqb (highest_marked m.slots (slot_of d) t.slots)

  keeps_into : (mag : Bool) → Slots (accepted d) (into m d mag g w)
  unfolding slots_hold major_now no_slot
  keeps_into mag = record {
    slots = upto_all (slot_holds (into m d mag g w)) 16 (slots_well mag);
    current = rw (ne_eqb (into m d mag g w).slots 0 (slots_some mag)) (here mag);
    empty = rw (ne_eqb (into m d mag g w).slots 0 (slots_some mag));
    start = refl;
  }

  mags_small : (mag : Bool) → (into m d mag g w).mag_slots < 2 ^ 16
  unfolding into
  mags_small true = omega (arith, marked_below m.mag_slots (slot_of d) t.mags, pow_mono {i = slot_of d + 1} {j = 16} (omega arith))
  mags_small false = omega arith

  shaped_into : (mag : Bool) → Shaped (into m d mag g w)
  unfolding into
  shaped_into true = record { ranges = simp length-set t.shaped.ranges; words = simp length-set t.shaped.words; mags = mags_small true }
  shaped_into false = record { ranges = t.shaped.ranges; words = simp length-set t.shaped.words; mags = mags_small false }

-- no major frame open passes with every clock
pub none_sound : (c : Clock) → major_sound c no_major ≡ true
unfolding slots_hold major_now no_slot
none_sound c =
    is_sound c no_major (record { slots = upto_all (slot_holds no_major) 16 none_well; current = refl; empty = refl; start = or-true c.any })

-- a record at a later count keeps the major frame's part of the state list, and the shape
module _ (c : Clock) (m : Major) (d : ℕ) (mag : Bool) (g w : ℕ)
    (e : major_sound c m ≡ true) (z : Shaped m) (above : c.any ≡ true → c.last < d) (hg : g ≤ 7) where
  abbrev held_in : Bool → Major
  held_in t = cond t m no_major

  room : (t : Bool) → continues m d ≡ t → Room (held_in t) (slot_of d)
  room true q =
      let f = is_free c m d e above q in
      record {
        slots = f.0;
        mags = low_marks m.mag_slots (slot_of d) (omega arith) z.mags f.1;
        well = λ i l. slot_clauses m i (slots_of c m e).slots l;
        shaped = z;
      }
  room false q = room_none (slot_of d)

  -- the major frame that is stepped to
  next_is : (step_major m d mag g w).next ≡ into (held_in (continues m d)) d mag g w
  unfolding step_major
  next_is = go (continues m d)
    where
      go : (t : Bool) → (cond t (stays m d mag g w) (major_renews m d mag g w)).next ≡ into (held_in t) d mag g w
      go true = refl
      go false = refl

  pub step_sound : major_sound (accepted d) (step_major m d mag g w).next ≡ true
  step_sound =
      subst⁻¹ (λ (n : Major). major_sound (accepted d) n ≡ true) next_is
      (is_sound (accepted d) _ (keeps_into (held_in (continues m d)) d (room (continues m d) refl) g w hg mag))

  pub step_shaped : Shaped (step_major m d mag g w).next
  step_shaped = rw next_is (shaped_into (held_in (continues m d)) d (room (continues m d) refl) g w hg mag)

-- a list of zeros is one
zeros : (n : ℕ) (xs : List ℕ) → length xs ≡ n → ((i : ℕ) → i < n → get_or xs i 0 ≡ 0) → xs ≡ replicate n 0
zeros n xs l h =
    ext_get_or 0 xs (replicate n 0) (l ∙ sym (length-replicate {A = ℕ} n 0))
    (λ i b. h i (omega arith) ∙ sym (get_or-replicate {A = ℕ} n i 0 0 (omega arith)))

all_zero : (number slots mags : ℕ) (ranges words : List ℕ) → number ≡ 0 → slots ≡ 0 → mags ≡ 0 → ranges ≡ replicate 16 0 → words ≡ replicate 16 0
    → ◌≡◌ {A = Major} (record { number = number; slots = slots; mag_slots = mags; ranges = ranges; words = words }) no_major
all_zero number slots mags ranges words a b c d e = cc

-- until something is accepted there is none
pub unstarted : (c : Clock) (m : Major) → major_sound c m ≡ true → Shaped m → c.any ≡ false → m ≡ no_major
unfolding no_slot
unstarted c m e z n =
    let f = slots_of c m e in
    let slots = not_begun c m.slots f.start n in
    let shut : not (eqb m.slots 0) ≡ false = rw eq-eqb in
    let number = eqb-true _ _ (second (not (eqb m.slots 0)) _ shut f.empty) in
    let free : (i : ℕ) → bit_set m.slots i ≡ false = λ i. rw slots (bits_above 0 i (pow_pos i)) in
    let holds : (i : ℕ) → i < 16 → slot_holds m i ≡ true = λ i q. slot_clauses m i f.slots q in
    let unmarked : (i : ℕ) → i < 16 → bit_set m.mag_slots i ≡ false = λ i q. mag_among_lem m i (holds i q) (free i) in
    let mags : m.mag_slots ≡ 0 = omega (arith, below 16 0 m.mag_slots z.mags (λ i p q. unmarked i q)) in
    let ranges = zeros 16 m.ranges z.ranges (λ i q. eqb-true _ _ (second _ _ (unmarked i q) (well_facts m i (holds i q)).range)) in
    let words = zeros 16 m.words z.words (λ i q. eqb-true _ _ (second _ _ (free i) (well_facts m i (holds i q)).word)) in
    all_zero m.number m.slots m.mag_slots m.ranges m.words number slots mags ranges words
