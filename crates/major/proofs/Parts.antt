-- What the code makes of its callees' answers is what the definitions of a step say.
-- Assumes nothing.
use mathlib.Core.Path.{◌≡◌, sym, subst, ◌∙◌}
use mathlib.Core.Bool.{Bool, true, false, true≢false}
use Rattle.std.specs.Prelude.{Option, is_some, unwrap_or}
use Rattle.std.specs.Bool.{then_some}
use Prim.Native.Nat.{ℕ, ◌+◌, ◌-◌, ◌*◌, ◌/◌, ◌%◌, ◌^◌, ◌<◌, ◌≤◌}
use native.Mathlib.Nat.{div-eq_of_lt, div-lt_iff_lt-mul}
use native.Mathlib.Omega.{arith}
use lib.Dec.{eqb}
use lib.Pow.{pow_mono, pow_pos}
use borrow.Author.Tests.{eqb-true}
use Rattle.prelude.specs.Marks.{bit_set}
use Rattle.prelude.proofs.Conds.{two}
use Rattle.prelude.proofs.Marks.{weight, bits_above, below}
use Rattle.major.specs.Major.{slot_of, continues, into, stays, major_renews, step_major}
use Rattle.major.specs.Place.{Free, slot_free, leaves, stepped_at, SteppedIs}
use Rattle.major.specs.declared.Major.{Major}
use Rattle.major.specs.declared.MajorStep.{MajorStep}

-- a mark fits 16 bits beside those below it
pub mark_fits : (n d : ℕ) → n < 2 ^ slot_of d → n + 1 * 2 ^ slot_of d % 2 ^ 16 < 2 ^ 16
mark_fits n d h = rw (weight 16 (slot_of d) (omega arith)) (omega (arith, pow_mono {i = slot_of d} {j = 15} (omega arith)))

-- marks below 2^16 of which none from slot s on is set
pub low_marks : (n s : ℕ) → s < 16 → n < 2 ^ 16 → ((i : ℕ) → s ≤ i → i < 16 → bit_set n i ≡ false) → n < 2 ^ s
low_marks n s l h f =
    let k = 16 - s in
    let e : 16 ≡ s + k = omega arith in
    below k s n (subst (λ j. n < 2 ^ j) e h) (λ i p q. f i p (omega arith))

pub mag_fits : (m : Major) (d : ℕ) → m.mag_slots < 2 ^ 16 → ((i : ℕ) → slot_of d ≤ i → i < 16 → bit_set m.mag_slots i ≡ false)
    → m.mag_slots + 1 * 2 ^ slot_of d % 2 ^ 16 < 2 ^ 16
mag_fits m d h f = mark_fits m.mag_slots d (low_marks m.mag_slots (slot_of d) (omega arith) h f)

-- room, by the code's test and mark by mark
module _ (m : Major) (d : ℕ) where
  small : (n : ℕ) → eqb (n / 2 ^ slot_of d) 0 ≡ true → n < 2 ^ slot_of d
  small n e = omega (arith, (div-lt_iff_lt-mul {x = n} {y = 1} (pow_pos (slot_of d))).0 (omega (arith, eqb-true (n / 2 ^ slot_of d) 0 e)))

  pub room_free : slot_free m d ≡ true → Free m d
  unfolding slot_free
  room_free e =
      let t = two (eqb (m.slots / 2 ^ slot_of d) 0) _ e in
      (small m.slots t.0, λ i p q. bits_above m.mag_slots i (omega (arith, small m.mag_slots t.1, pow_mono p)))

  pub free_room : m.mag_slots < 2 ^ 16 → Free m d → slot_free m d ≡ true
  unfolding slot_free
  free_room h f =
      let a = div-eq_of_lt f.0 in
      let b = div-eq_of_lt (low_marks m.mag_slots (slot_of d) (omega arith) h f.1) in
      rw (a, b)

-- the three outcomes of a step
module _ (m : Major) (d : ℕ) (mag : Bool) (range word : ℕ) (x : MajorStep) where
  pub is_renewed : continues m d ≡ false → x ≡ major_renews m d mag range word → SteppedIs m d mag range word x
  unfolding stepped_at step_major
  is_renewed e q = record { is = q ∙ rw e; within = λ f. q ∙ rw e }

  pub is_left : continues m d ≡ true → slot_free m d ≡ false → m.mag_slots < 2 ^ 16 → x ≡ leaves m → SteppedIs m d mag range word x
  unfolding stepped_at
  is_left e r h q = record { is = q ∙ rw (e, r); within = λ f. absurd (true≢false (sym (free_room m d h (f e)) ∙ r)) }

  pub is_stayed : continues m d ≡ true → slot_free m d ≡ true → x ≡ stays m d mag range word → SteppedIs m d mag range word x
  unfolding stepped_at step_major
  is_stayed e r q = record { is = q ∙ rw (e, r); within = λ f. q ∙ rw e }

-- a record without MAG is laid whatever range it is said to have
module _ (m : Major) (d word : ℕ) (x : MajorStep) where
  pub any_range : (mag : Bool) (range : ℕ) → let o : Option ℕ = then_some mag range in SteppedIs m d (is_some o) (unwrap_or o 0) word x
      → SteppedIs m d mag range word x
  unfolding stepped_at step_major into
  any_range true range s = s
  any_range false range s = record { is = s.is; within = s.within }
