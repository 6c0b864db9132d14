-- What an accumulation that passes its part of the list is known to be.
-- Assumes nothing.
use mathlib.Core.Path.{◌≡◌, refl, sym, ◌∙◌}
use mathlib.Core.Bool.{Bool, true, false, not, ◌&&◌, ◌||◌, true≢false}
use Prim.Native.Nat.{ℕ, ◌+◌, ◌-◌, ◌^◌, ◌<◌, ◌≤◌}
use native.Mathlib.Omega.{arith}
use lib.Count.{ones}
use lib.Dec.{eqb, ltb, leb}
use lib.Pow.{pow_mono}
use borrow.Author.Tests.{eqb-true, eqb-false, ltb-true, leb-true, eq-eqb, ne_eqb, lt-ltb}
use Rattle.prelude.proofs.Conds.{two, second}
use Rattle.prelude.specs.Marks.{bit_set, highest}
use Rattle.prelude.proofs.Marks.{highest_high, highest_set, set_below, none_above}
use Rattle.clock.specs.Clock.{full_counts, begun}
use Rattle.clock.specs.declared.Clock.{Clock}
use Rattle.clock.proofs.Laws.{has_begun}
use Rattle.accumulation.specs.Accumulation.{is_open, gap, fewest, most, joins, step_accumulation}
use Rattle.accumulation.specs.Soundness.{counts_below, frames_among, frames_fit, others_fit, none_open, accumulation_sound}
use Rattle.accumulation.specs.Place.{in_place, stepped_at}
use Rattle.accumulation.specs.Inner.Joining.{After}
use Rattle.accumulation.specs.declared.Accumulation.{Accumulation}

-- the clauses, each by itself
pub record Frames (c : Clock) (a : Accumulation) : Type 0 where
  pub counted : counts_below a ≡ true
  pub among : frames_among a ≡ true
  pub fit : frames_fit a ≡ true
  pub others : others_fit c a ≡ true
  pub shut : none_open a ≡ true
  pub start : begun c a.held ≡ true

pub frames : (c : Clock) (a : Accumulation) → accumulation_sound c a ≡ true → Frames c a
unfolding accumulation_sound
frames c a e =
    let p = two (counts_below a) _ e in
    let q = two (frames_among a) _ p.1 in
    let r = two (frames_fit a) _ q.1 in
    let s = two (others_fit c a) _ r.1 in
    let t = two (none_open a) _ s.1 in
    record { counted = p.0; among = q.0; fit = r.0; others = s.0; shut = t.0; start = t.1 }

pub is_sound : (c : Clock) (a : Accumulation) → Frames c a → accumulation_sound c a ≡ true
unfolding accumulation_sound
is_sound c a f = cc

pub first_below : (a : Accumulation) → counts_below a ≡ true → a.first < full_counts
unfolding counts_below
first_below a e = ltb-true a.first full_counts (two (ltb a.first full_counts) _ e).0

pub frames_36 : (a : Accumulation) → frames_among a ≡ true → a.held < 2 ^ 36
unfolding frames_among
frames_36 a e = ltb-true a.held (2 ^ 36) (two _ _ e).0

-- above type 35 no frame is held
pub type_above : (a : Accumulation) → a.held < 2 ^ 36 → (a.held ≡ 0 → ⊥) → 35 < a.last_type → false ≡ frames_among a
unfolding frames_among
type_above a h z l = rw (lt-ltb, ne_eqb, none_above 36 a.last_type a.held h (omega arith))

highest_frame : (a : Accumulation) → frames_among a ≡ true → (a.held ≡ 0 → ⊥) → highest a.held a.last_type ≡ true
unfolding frames_among
highest_frame a e z = second _ _ (ne_eqb a.held 0 z) (two (ltb a.held (2 ^ 36)) _ e).1

pub fits : (a : Accumulation) → frames_fit a ≡ true → a.first + ones a.held - 1 ≤ a.last_count
unfolding frames_fit
fits a e = leb-true _ _ e

pub others_last : (c : Clock) (a : Accumulation) → others_fit c a ≡ true → a.last_count + a.others ≤ c.last
unfolding others_fit
others_last c a e = leb-true _ _ e

pub is_open_lem : (a : Accumulation) → is_open a ≡ true → a.held ≡ 0 → ⊥
is_open_lem a e z = let y : not (eqb a.held 0) ≡ false = rw eq-eqb in true≢false (sym e ∙ y)

-- with none open the numbers are 0
pub record Nought (a : Accumulation) : Type 0 where
  pub first_is : a.first ≡ 0
  pub type_is : a.last_type ≡ 0
  pub last_is : a.last_count ≡ 0
  pub others_are : a.others ≡ 0

pub none_zero : (a : Accumulation) → none_open a ≡ true → a.held ≡ 0 → Nought a
unfolding none_open
none_zero a e z =
    let n : not (eqb a.held 0) ≡ false = rw eq-eqb in
    let p = two (eqb a.first 0) _ (second (not (eqb a.held 0)) _ n e) in
    let q = two (eqb a.last_type 0) _ p.1 in
    let r = two (eqb a.last_count 0) (eqb a.others 0) q.1 in
    record { first_is = eqb-true _ _ p.0; type_is = eqb-true _ _ q.0; last_is = eqb-true _ _ r.0; others_are = eqb-true _ _ r.1 }

-- what joining tells
pub joins_open_lem : (a : Accumulation) (u d : ℕ) → joins a u d ≡ true → a.held ≡ 0 → ⊥
unfolding joins
joins_open_lem a u d e = is_open_lem a (two (is_open a) _ e).0

-- types rise strictly inside an accumulation: a frame that joins is of a higher type than each that is held
pub types_rise : (a : Accumulation) (u d : ℕ) → frames_among a ≡ true → joins a u d ≡ true → (t : ℕ) → bit_set a.held t ≡ true → t < u
unfolding joins
types_rise a u d f e t s =
    let last = a.last_type in
    let within = leb (fewest last u) (gap a d) && leb (gap a d) (most last u) in
    let p = two (is_open a) (ltb last u && within) e in
    let h = highest_high a.held last (highest_frame a f (is_open_lem a p.0)) in
    omega (arith, ltb-true last u (two (ltb last u) within p.1).0, set_below a.held t (last + 1) h s)

-- a frame that joins has a mark of its own, above all others
pub below_mark : (a : Accumulation) (u d : ℕ) → frames_among a ≡ true → joins a u d ≡ true → a.held < 2 ^ u
below_mark a u d f e =
    let q = highest_frame a f (joins_open_lem a u d e) in
    let l = types_rise a u d f e a.last_type (highest_set a.held a.last_type q) in
    omega (arith, highest_high a.held a.last_type q, pow_mono {i = a.last_type + 1} {j = u} (omega arith))

-- a later count lies after the last frame and the other frames since
module _ (c : Clock) (a : Accumulation) (e : accumulation_sound c a ≡ true) (d : ℕ) (above : c.any ≡ true → c.last < d) where
  known : Frames c a
  known = frames c a e

  pub is_above : (a.held ≡ 0 → ⊥) → c.last < d
  is_above z = above (has_begun c a.held known.start z)

  pub is_after : After a d
  is_after z = omega (arith, others_last c a known.others, is_above z)

  -- what is handed to the functions of this room is in place
  pub in_place_lem : (u : ℕ) → u < 64 → in_place a u d ≡ true
  unfolding in_place
  in_place_lem u h = rw (lt-ltb, lt-ltb a.held (2 ^ 36) (frames_36 a known.among)) (go (eqb a.held 0) refl)
    where
      go : (t : Bool) → eqb a.held 0 ≡ t → (t || ltb (a.last_count + a.others) d) ≡ true
      go true t = refl
      go false t = lt-ltb (a.last_count + a.others) d (is_after (eqb-false a.held 0 t))

  pub step_is : (science : Bool) (u : ℕ) → u < 64 → stepped_at a science u d ≡ step_accumulation a science u d
  unfolding stepped_at
  step_is science u h = rw in_place_lem

-- what being in place tells the private functions
module _ (a : Accumulation) (u d : ℕ) (e : in_place a u d ≡ true) where
  pub place_type : u < 64
  unfolding in_place
  place_type = ltb-true u 64 (two (ltb u 64) _ e).0

  pub place_frames : a.held < 2 ^ 36
  unfolding in_place
  place_frames = ltb-true a.held (2 ^ 36) (two (ltb a.held (2 ^ 36)) _ (two (ltb u 64) _ e).1).0

  pub place_after : After a d
  unfolding in_place
  place_after z =
      let h = (two (ltb a.held (2 ^ 36)) _ (two (ltb u 64) _ e).1).1 in
      ltb-true (a.last_count + a.others) d (second (eqb a.held 0) _ (ne_eqb a.held 0 z) h)

-- what the code needs of that where it calls them
pub ruleset placed = (place_type, place_frames, place_after)
