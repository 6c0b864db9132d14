-- What the others know of the clock.
-- Assumes nothing.
use mathlib.Core.Path.{◌≡◌, refl, sym, ◌∙◌}
use mathlib.Core.Bool.{Bool, true, false, cond, not, ◌&&◌, ◌||◌, true≢false, false≢true}
use Prim.Native.Nat.{ℕ, ◌+◌, ◌-◌, ◌*◌, ◌<◌, ◌≤◌}
use native.Mathlib.Nat.{zero-add, zero-mul}
use native.Mathlib.Omega.{arith}
use lib.Dec.{eqb, ltb, leb}
use borrow.Author.Tests.{eqb-true, eqb-false, ltb-true, ltb-false, leb-true, lt-ltb, le-ltb, le-leb, lt-leb, ne_eqb}
use Rattle.prelude.proofs.Conds.{two, second}
use Rattle.std.specs.Prelude.{Result, Ok, Err}
use Rattle.record.specs.declared.Record.{Record}
use Rattle.record.specs.declared.refusal.Refusal.{Refusal}
use Rattle.record.specs.declared.refusal.Refusal.TheVariants.{NotLater, PastTurns}
use Rattle.clock.specs.Clock.{circle, turns, full_counts, turn_of, own_of, ahead, farthest, later, turn_at, turn_fits, count_of, arrival_at}
use Rattle.clock.specs.Clock.{is_later, has_turn, dated, accepted, unset, begun, clock_sound}
use Rattle.clock.specs.declared.Clock.{Clock}

-- where a record arrives
module _ (c : Clock) (f : Record) where
  -- the three outcomes by the two tests
  abbrev pub outcome : Bool → Bool → Result ℕ Refusal
  outcome t u = cond t (cond u (Ok (dated c f)) (Err PastTurns)) (Err NotLater)

  pub outcome_is : arrival_at c f.count ≡ outcome (is_later c f) (has_turn c f)
  unfolding arrival_at is_later has_turn dated
  outcome_is = refl

-- once something was accepted: how far ahead a later record lies, and that it stands as far above the last
module _ (c : Clock) (n : ℕ) (a : c.any ≡ true) where
  later_is : later c n ≡ (leb 1 (ahead c n) && leb (ahead c n) farthest)
  unfolding later
  later_is = rw a

  later_ahead : later c n ≡ true → (1 ≤ ahead c n) × (ahead c n ≤ farthest)
  later_ahead e =
      let t = two (leb 1 (ahead c n)) (leb (ahead c n) farthest) (sym later_is ∙ e) in
      (leb-true 1 (ahead c n) t.0, leb-true (ahead c n) farthest t.1)

  turn_is : turn_at c n ≡ turn_of c.last + cond (ltb (own_of n) (own_of c.last)) 1 0
  unfolding turn_at
  turn_is = rw a

  pub ahead_is : later c n ≡ true → count_of c n ≡ c.last + ahead c n
  unfolding count_of
  ahead_is l = rw turn_is (go (ltb (own_of n) (own_of c.last)) refl)
    where
      go : (t : Bool) → ltb (own_of n) (own_of c.last) ≡ t → (turn_of c.last + cond t 1 0) * circle + own_of n ≡ c.last + ahead c n
      go true t = omega (arith, ltb-true (own_of n) (own_of c.last) t, later_ahead l)
      go false t = omega (arith, ltb-false (own_of n) (own_of c.last) t, later_ahead l)

  -- the turn is past the last where that is 2^36 or more
  turn_fits_lem : later c n ≡ true → turn_fits c n ≡ ltb (c.last + ahead c n) full_counts
  unfolding turn_fits count_of
  turn_fits_lem l = go (ltb (turn_at c n) turns) refl
    where
      go : (t : Bool) → ltb (turn_at c n) turns ≡ t → t ≡ ltb (c.last + ahead c n) full_counts
      go true t = sym (lt-ltb (c.last + ahead c n) full_counts (omega (arith, ltb-true (turn_at c n) turns t, ahead_is l)))
      go false t = sym (le-ltb (c.last + ahead c n) full_counts (omega (arith, ltb-false (turn_at c n) turns t, ahead_is l)))

  -- where a record arrives, by how far its count lies ahead
  pub comes_again : ahead c n ≡ 0 → arrival_at c n ≡ Err NotLater
  unfolding arrival_at
  comes_again e = rw (later_is, lt-leb 1 (ahead c n) (omega arith))

  pub comes_far : farthest < ahead c n → arrival_at c n ≡ Err NotLater
  unfolding arrival_at
  comes_far h = rw (later_is, lt-leb (ahead c n) farthest h, le-leb 1 (ahead c n) (omega arith))

  module _ (p : 1 ≤ ahead c n) (q : ahead c n ≤ farthest) where
    is_later_lem : later c n ≡ true
    is_later_lem = later_is ∙ rw (le-leb 1 (ahead c n) p, le-leb (ahead c n) farthest q)

    pub comes_past : full_counts ≤ c.last + ahead c n → arrival_at c n ≡ Err PastTurns
    unfolding arrival_at
    comes_past h = rw (is_later_lem, turn_fits_lem is_later_lem, le-ltb (c.last + ahead c n) full_counts h)

    pub comes_at : c.last + ahead c n < full_counts → arrival_at c n ≡ Ok (c.last + ahead c n)
    unfolding arrival_at
    comes_at h = rw (is_later_lem, turn_fits_lem is_later_lem, lt-ltb (c.last + ahead c n) full_counts h, ahead_is is_later_lem)

-- before anything was accepted, a record stands in turn 0
pub comes_first : (c : Clock) (n : ℕ) → c.any ≡ false → arrival_at c n ≡ Ok (own_of n)
unfolding arrival_at later turn_fits turn_at count_of
comes_first c n a = rw (a, zero-mul circle, zero-add (own_of n))

-- what becomes of a record with a count
pub ruleset comes = (comes_first, comes_again, comes_far, comes_past, comes_at)

-- a later record is above the last accepted
pub dated_above : (c : Clock) (f : Record) → is_later c f ≡ true → c.any ≡ true → c.last < dated c f
unfolding is_later dated
dated_above c f l a = omega (arith, ahead_is c f.count a l, later_ahead c f.count a l)

-- the counts of the state stay below their bound
pub dated_below : (c : Clock) (f : Record) → has_turn c f ≡ true → dated c f < full_counts
unfolding has_turn turn_fits dated count_of
dated_below c f e = omega (arith, ltb-true (turn_at c f.count) turns e)

pub last_below : (c : Clock) → clock_sound c ≡ true → c.last < full_counts
unfolding clock_sound
last_below c e = ltb-true c.last full_counts (two (ltb c.last full_counts) _ e).0

-- 14's test in other words: the count is below the last one's 24 bits and the last turn is 4,095
pub past_is : (c : Clock) (f : Record) → clock_sound c ≡ true
    → has_turn c f ≡ not (c.any && (ltb (own_of f.count) (own_of c.last) && eqb (turn_of c.last) 4095))
unfolding has_turn turn_fits turn_at
past_is c f e = go c.any (ltb (own_of f.count) (own_of c.last))
  where
    top : turn_of c.last < turns
    top = omega (arith, last_below c e)

    last_turn : (t : Bool) → eqb (turn_of c.last) 4095 ≡ t → ltb (turn_of c.last + 1) turns ≡ not t
    last_turn true t = le-ltb (turn_of c.last + 1) turns (omega (arith, eqb-true (turn_of c.last) 4095 t))
    last_turn false t = lt-ltb (turn_of c.last + 1) turns (omega (arith, top, eqb-false (turn_of c.last) 4095 t))

    go : (a l : Bool) → ltb (cond a (turn_of c.last + cond l 1 0) 0) turns ≡ not (a && (l && eqb (turn_of c.last) 4095))
    go false l = lt-ltb 0 turns (omega arith)
    go true true = last_turn (eqb (turn_of c.last) 4095) refl
    go true false = lt-ltb (turn_of c.last + 0) turns (omega (arith, top))

-- count d can follow: above the last accepted, and at most 8,388,607 counts; with nothing accepted it is of turn 0
pub record Follows (c : Clock) (d : ℕ) : Type 0 where
  pub above : c.any ≡ true → c.last < d
  pub near : c.any ≡ true → d ≤ c.last + farthest
  pub first : c.any ≡ false → d < circle
  pub small : d < full_counts

pub follows_none : (d : ℕ) → d < circle → Follows unset d
follows_none d h = record { above = λ a. absurd (false≢true a); near = λ a. absurd (false≢true a); first = λ a. h; small = omega arith }

pub follows_last : (c d : ℕ) → c < d → d ≤ c + farthest → d < full_counts → Follows (accepted c) d
follows_last c d l n h = record { above = λ a. l; near = λ a. n; first = λ a. absurd (true≢false a); small = h }

-- a record of such a count stands there
module _ (c : Clock) (d : ℕ) (h : Follows c d) where
  ahead_of : c.any ≡ true → ahead c (own_of d) ≡ d - c.last
  ahead_of a = omega (arith, h.above a, h.near a)

  own_later : later c (own_of d) ≡ true
  unfolding later
  own_later = go c.any refl
    where
      go : (t : Bool) → c.any ≡ t → (not t || (leb 1 (ahead c (own_of d)) && leb (ahead c (own_of d)) farthest)) ≡ true
      go false t = refl
      go true t =
          rw (
            le-leb 1 (ahead c (own_of d)) (omega (arith, ahead_of t, h.above t)),
            le-leb (ahead c (own_of d)) farthest (omega (arith, ahead_of t, h.near t)),
          )

  own_turn : turn_at c (own_of d) ≡ turn_of d
  unfolding turn_at
  own_turn = go c.any (ltb (own_of (own_of d)) (own_of c.last)) refl refl
    where
      go : (a l : Bool) → c.any ≡ a → ltb (own_of (own_of d)) (own_of c.last) ≡ l → cond a (turn_of c.last + cond l 1 0) 0 ≡ turn_of d
      go false l a e = omega (arith, h.first a)
      go true true a e = omega (arith, h.above a, h.near a, ltb-true (own_of (own_of d)) (own_of c.last) e)
      go true false a e = omega (arith, h.above a, h.near a, ltb-false (own_of (own_of d)) (own_of c.last) e)

  pub stands : (f : Record) → f.count ≡ own_of d → (is_later c f ≡ true) × (has_turn c f ≡ true) × (dated c f ≡ d)
  unfolding is_later has_turn dated turn_fits count_of
  stands f e = rw e (own_later, lt-ltb (turn_at c (own_of d)) turns (omega (arith, own_turn, h.small)), omega (arith, own_turn))

pub accepted_sound : (d : ℕ) → d < full_counts → clock_sound (accepted d) ≡ true
unfolding clock_sound
accepted_sound d h = rw (lt-ltb d full_counts h)

pub unset_sound : clock_sound unset ≡ true
unfolding clock_sound
unset_sound = refl

-- where a number isn't 0 something was accepted
pub has_begun : (c : Clock) (n : ℕ) → begun c n ≡ true → (n ≡ 0 → ⊥) → c.any ≡ true
has_begun c n e h = go c.any refl e
  where
    go : (t : Bool) → c.any ≡ t → (t || eqb n 0) ≡ true → c.any ≡ true
    go true t _ = t
    go false t e = absurd (false≢true (sym (ne_eqb n 0 h) ∙ e))

-- a number of which `begun` holds is 0 where nothing was accepted
pub not_begun : (c : Clock) (n : ℕ) → begun c n ≡ true → c.any ≡ false → n ≡ 0
not_begun c n e a = eqb-true n 0 (second c.any (eqb n 0) a e)

-- a clock that has accepted nothing is the fresh one
made : (any : Bool) (last : ℕ) → any ≡ false → last ≡ 0 → ◌≡◌ {A = Clock} (record { any = any; last = last }) unset
made any last p q = rw (p, q)

pub unset_is : (c : Clock) → clock_sound c ≡ true → c.any ≡ false → c ≡ unset
unfolding clock_sound
unset_is c e a = made c.any c.last a (not_begun c c.last (two (ltb c.last full_counts) (begun c c.last) e).1 a)
