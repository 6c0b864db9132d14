-- The open accumulation keeps its part of the state list.
-- Assumes nothing.
use mathlib.Core.Path.{◌≡◌, refl, sym, ap, ◌∙◌}
use mathlib.Core.Bool.{Bool, true, false, not, cond, ◌&&◌, ◌||◌, or-true}
use Prim.Native.Nat.{ℕ, ◌+◌, ◌-◌, ◌^◌, ◌<◌}
use native.Mathlib.Omega.{arith}
use lib.Count.{ones, ones_in}
use lib.Dec.{eqb, leb}
use lib.Pow.{pow_mono, pow_pos}
use borrow.Author.Tests.{eqb-true, eqb-false, ne_eqb, lt-ltb, le-leb}
use Rattle.prelude.specs.Marks.{highest, marked}
use Rattle.prelude.proofs.Marks.{highest_marked, marked_below, ones_marked}
use Rattle.clock.specs.Clock.{full_counts, accepted}
use Rattle.clock.specs.declared.Clock.{Clock}
use Rattle.clock.proofs.Laws.{not_begun}
use Rattle.accumulation.specs.Accumulation.{no_accumulation, joins, joined, started, passed, extends, renews, passes, step_accumulation}
use Rattle.accumulation.specs.Soundness.{counts_below, frames_among, frames_fit, others_fit, none_open, accumulation_sound}
use Rattle.accumulation.specs.declared.Accumulation.{Accumulation}
use Rattle.accumulation.proofs.Facts.{Frames, frames, is_sound, first_below, fits, others_last, none_zero, joins_open_lem, below_mark, is_above}

ones_zero : ones 0 ≡ 0
unfolding ones ones_in
ones_zero = refl

unmarked : (u : ℕ) → marked 0 u ≡ 2 ^ u
unfolding marked
unmarked u = omega arith

module _ (c : Clock) (a : Accumulation) (f : Frames c a) where
  keeps_joined : (u d : ℕ) → u < 36 → c.last < d → d < full_counts → joins a u d ≡ true → Frames (accepted d) (joined a u d)
  unfolding counts_below frames_among frames_fit others_fit none_open
  keeps_joined u d k l b e =
      let h = below_mark a u d f.among e in
      let m = marked_below a.held u h in
      let n : marked a.held u < 2 ^ 36 = omega (arith, pow_mono {i = u + 1} {j = 36} (omega arith)) in
      let z : marked a.held u ≡ 0 → ⊥ = λ q. omega (arith, ones_marked a.held u h, ones_zero, ap ones q) in
      record {
        counted = rw (lt-ltb d full_counts b, lt-ltb a.first full_counts (first_below a f.counted));
        among = rw (lt-ltb (marked a.held u) (2 ^ 36) n, highest_marked a.held u h) (or-true (eqb (marked a.held u) 0));
        fit = le-leb (a.first + ones (marked a.held u) - 1) d
            (omega (arith, ones_marked a.held u h, fits a f.fit, others_last c a f.others));
        others = le-leb (d + 0) d (omega arith);
        shut = rw (ne_eqb (marked a.held u) 0 z);
        start = refl;
      }

  keeps_passed : (d : ℕ) → d < full_counts → ((a.held ≡ 0 → ⊥) → c.last < d) → Frames (accepted d) (passed a)
  unfolding counts_below frames_among frames_fit others_fit none_open
  keeps_passed d b l = record {
    counted = f.counted;
    among = f.among;
    fit = f.fit;
    others = go (eqb a.held 0) refl;
    shut = closed (eqb a.held 0) refl f.shut;
    start = refl;
  }
    where
      go : (t : Bool) → eqb a.held 0 ≡ t → leb (a.last_count + cond (not t) (a.others + 1) a.others) d ≡ true
      go false t = le-leb (a.last_count + (a.others + 1)) d (omega (arith, others_last c a f.others, l (eqb-false a.held 0 t)))
      go true t = let k = none_zero a f.shut (eqb-true a.held 0 t) in le-leb (a.last_count + a.others) d (omega arith)

      closed : (t : Bool) → eqb a.held 0 ≡ t
          → (not t || (eqb a.first 0 && (eqb a.last_type 0 && (eqb a.last_count 0 && eqb a.others 0)))) ≡ true
          → (not t || (eqb a.first 0 && (eqb a.last_type 0
          && (eqb a.last_count 0 && eqb (cond (not t) (a.others + 1) a.others) 0)))) ≡ true
      closed true t e = e
      closed false t e = refl

keeps_started : (u d : ℕ) → u < 36 → d < full_counts → Frames (accepted d) (started u d)
unfolding counts_below frames_among frames_fit others_fit none_open
keeps_started u d k b =
    let n : 2 ^ u < 2 ^ 36 = omega (arith, pow_mono {i = u + 1} {j = 36} (omega arith), marked_below 0 u (pow_pos u), unmarked u) in
    record {
      counted = rw lt-ltb;
      among = rw (lt-ltb (2 ^ u) (2 ^ 36) n, top) (or-true (eqb (2 ^ u) 0));
      fit = le-leb (d + ones (2 ^ u) - 1) d (omega (arith, one));
      others = le-leb (d + 0) d (omega arith);
      shut = rw (ne_eqb (2 ^ u) 0 (λ q. omega (arith, pow_pos u)));
      start = refl;
    }
  where
    top : highest (2 ^ u) u ≡ true
    top = ap (λ x. highest x u) (sym (unmarked u)) ∙ highest_marked 0 u (pow_pos u)

    one : ones (2 ^ u) ≡ 1
    one = ap ones (sym (unmarked u)) ∙ ones_marked 0 u (pow_pos u) ∙ ap (λ x. x + 1) ones_zero

-- no accumulation open passes with every clock
pub none_sound : (c : Clock) → accumulation_sound c no_accumulation ≡ true
unfolding counts_below frames_among frames_fit others_fit none_open ones ones_in
none_sound c = is_sound c no_accumulation (record {
  counted = refl;
  among = refl;
  fit = refl;
  others = le-leb (0 + 0) c.last (omega arith);
  shut = refl;
  start = or-true c.any;
})

-- a record at a later count keeps the accumulation's part of the state list
pub step_sound : (c : Clock) (a : Accumulation) (science : Bool) (u d : ℕ) → accumulation_sound c a ≡ true → (science ≡ true → u < 36)
    → (c.any ≡ true → c.last < d) → d < full_counts → accumulation_sound (accepted d) (step_accumulation a science u d).next ≡ true
unfolding step_accumulation
step_sound c a science u d e t above b = is_sound (accepted d) _ (go science (joins a u d) t refl)
  where
    f : Frames c a
    f = frames c a e

    go : (s j : Bool) → (s ≡ true → u < 36) → joins a u d ≡ j
        → Frames (accepted d) (cond s (cond j (extends a u d) (renews a u d)) (passes a)).next
    go true true t q = keeps_joined c a f u d (t refl) (is_above c a e d above (joins_open_lem a u d q)) b q
    go true false t q = keeps_started u d (t refl) b
    go false j t q = keeps_passed c a f d b (is_above c a e d above)

-- "With no accumulation open, its numbers are 0": until something is accepted there is none
all_zero : (first held type count others : ℕ) → first ≡ 0 → held ≡ 0 → type ≡ 0 → count ≡ 0 → others ≡ 0
    → ◌≡◌ {A = Accumulation} (record { first = first; held = held; last_type = type; last_count = count; others = others }) no_accumulation
all_zero first held type count others a b c d e = cc

pub unstarted : (c : Clock) (a : Accumulation) → accumulation_sound c a ≡ true → c.any ≡ false → a ≡ no_accumulation
unstarted c a e n =
    let f = frames c a e in
    let h = not_begun c a.held f.start n in
    let z = none_zero a f.shut h in
    all_zero a.first a.held a.last_type a.last_count a.others z.first_is h z.type_is z.last_is z.others_are
