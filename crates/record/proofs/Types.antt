-- The kind of every frame, of all types computed once; rule 11 by the kind; which frames are real-time, which carry what.
-- Assumes nothing.
use mathlib.Core.Path.{◌≡◌, refl, sym, ap, ◌∙◌}
use mathlib.Core.Bool.{Bool, true, false, not, cond, ◌&&◌, false≢true}
use mathlib.Core.List.{List}
use Prim.Native.Nat.{ℕ, ◌<◌, ◌≤◌}
use native.Mathlib.Omega.{arith}
use lib.Dec.{T, eqb, leb}
use lib.ListN.{length, length-take, length-drop}
use borrow.Author.Tests.{eq-eqb, ne_eqb, eqb-true, leb-true}
use Rattle.prelude.specs.Upto.{both, upto}
use Rattle.prelude.proofs.Upto.{both_left, both_right, upto_at}
use Rattle.record.specs.Layout.{size, packet_size, packet_bytes, type_in, frame_code, frame_type, second_code, mag_at, second_at, burst_count}
use Rattle.record.specs.Frame.{is_burst, top_set, kind_of_codes, kind_of, undefined_codes, codes_of, KindIs}
use Rattle.record.specs.Frame.{is_real_time, carries_science, carries_burst, carries_two}
use Rattle.record.specs.Parts.{has_burst, burst_at, burst_bytes}
use Rattle.record.specs.Rules.{type_holds}
use Rattle.record.specs.declared.frame.Kind.{Kind}
use Rattle.record.specs.declared.frame.Kind.TheVariants.{RealTime, HalfBurst, FullBurst, Other, Undefined}

unfoldable pub defined : Kind → Bool
defined (RealTime t) = true
defined HalfBurst = true
defined FullBurst = true
defined Other = true
defined Undefined = false

pub not_undefined : (k : Kind) → (k ≡ Undefined → ⊥) → defined k ≡ true
unfolding defined
not_undefined (RealTime t) h = refl
not_undefined HalfBurst h = refl
not_undefined FullBurst h = refl
not_undefined Other h = refl
not_undefined Undefined h = absurd (h refl)

same : Bool → Bool → Bool
same true b = b
same false b = not b

same_is : (a b : Bool) → T (same a b) → a ≡ b
unfolding same
same_is true true t = refl
same_is false false t = refl
same_is false true t = elim t [ ]
same_is true false t = elim t [ ]

-- of each type: it is 58 to 61 exactly when it is none of the others, and no real-time type is a burst's
abbrev is_undefined : ℕ → Bool
is_undefined t = leb 58 t && leb t 61

abbrev none : Bool → Bool → Bool → Bool
none real burst dump = not real && (not burst && not dump)

abbrev right : ℕ → Bool
right t = both (same (is_undefined t) (none (leb t 35) (is_burst t) (eqb t 63))) (same (leb t 35 && is_burst t) false)

every_type : T (upto right 64)
unfolding both same is_burst
every_type = tt

-- the kind by its five tests
abbrev kind_by : ℕ → Bool → Bool → Bool → Bool → Bool → Kind
kind_by t real burst top second dump = cond real (RealTime t) (cond burst (cond top (cond second FullBurst Undefined) HalfBurst) (cond dump Other Undefined))

module _ (code second : ℕ) where
  abbrev t : ℕ
  t = type_in code

  abbrev right_here : T (right t)
  right_here = upto_at right 64 every_type t (omega arith)

  undefined_is : is_undefined t ≡ none (leb t 35) (is_burst t) (eqb t 63)
  undefined_is = same_is _ _ (both_left (same (is_undefined t) (none (leb t 35) (is_burst t) (eqb t 63))) (same (leb t 35 && is_burst t) false) right_here)

  apart : (leb t 35 && is_burst t) ≡ false
  apart = same_is _ _ (both_right (same (is_undefined t) (none (leb t 35) (is_burst t) (eqb t 63))) (same (leb t 35 && is_burst t) false) right_here)

  -- what is said of the kind by its tests, is said of it
  by_tests : (P : Kind → Type 0)
      → ((a b c d e : Bool) → leb t 35 ≡ a → is_burst t ≡ b → top_set code ≡ c → is_burst (type_in second) ≡ d → eqb t 63 ≡ e → P (kind_by t a b c d e))
      → P (kind_of_codes code second)
  unfolding kind_of_codes
  by_tests P h = h _ _ _ _ _ refl refl refl refl refl

  typed : codes_of (kind_of_codes code second) code second ≡ true
  unfolding codes_of undefined_codes
  typed = by_tests (λ k. codes_of k code second ≡ true) go
    where
      go : (a b c d e : Bool) → leb t 35 ≡ a → is_burst t ≡ b → top_set code ≡ c → is_burst (type_in second) ≡ d → eqb t 63 ≡ e
          → codes_of (kind_by t a b c d e) code second ≡ true
      go true b c d e p q r s u = rw (eq-eqb t t refl, p)
      go false true true true e p q r s u = rw (q, r, s)
      go false true true false e p q r s u = rw (undefined_is, p, q, r, s)
      go false true false d e p q r s u = rw (q, r)
      go false false c d true p q r s u = u
      go false false c d false p q r s u = rw (undefined_is, p, q, u)

  -- rule 11's test
  tested : not (undefined_codes code second) ≡ defined (kind_of_codes code second)
  unfolding undefined_codes defined
  tested = by_tests (λ k. not (undefined_codes code second) ≡ defined k) go
    where
      go : (a b c d e : Bool) → leb t 35 ≡ a → is_burst t ≡ b → top_set code ≡ c → is_burst (type_in second) ≡ d → eqb t 63 ≡ e
          → not (undefined_codes code second) ≡ defined (kind_by t a b c d e)
      go true true c d e p q r s u = absurd (false≢true (sym apart ∙ rw (p, q)))
      go true false c d e p q r s u = rw (undefined_is, p, q)
      go false true true true e p q r s u = rw (undefined_is, p, q, r, s)
      go false true true false e p q r s u = rw (undefined_is, p, q, r, s)
      go false true false d e p q r s u = rw (undefined_is, p, q, r)
      go false false c d true p q r s u = rw (undefined_is, p, q, u)
      go false false c d false p q r s u = rw (undefined_is, p, q, u)

  -- a real-time frame's type is below 36
  real_code : is_real_time (kind_of_codes code second) ≡ true → t < 36
  unfolding is_real_time
  real_code = by_tests (λ k. is_real_time k ≡ true → t < 36) go
    where
      go : (a b c d e : Bool) → leb t 35 ≡ a → is_burst t ≡ b → top_set code ≡ c → is_burst (type_in second) ≡ d → eqb t 63 ≡ e
          → is_real_time (kind_by t a b c d e) ≡ true → t < 36
      go true b c d e p q r s u h = omega (arith, leb-true t 35 p)
      go false true true true e p q r s u h = absurd (false≢true h)
      go false true true false e p q r s u h = absurd (false≢true h)
      go false true false d e p q r s u h = absurd (false≢true h)
      go false false c d true p q r s u h = absurd (false≢true h)
      go false false c d false p q r s u h = absurd (false≢true h)

module _ (p : List ℕ) where
  kind_if : length p ≡ packet_size → kind_of p ≡ kind_of_codes (frame_code p) (second_code p)
  unfolding kind_of
  kind_if h = rw (eq-eqb (length p) packet_size h)

  pub kind_sized : length p ≡ packet_size → (k : Kind) → k ≡ kind_of_codes (frame_code p) (second_code p) → KindIs p k
  kind_sized h k e = record { is = e ∙ sym (kind_if h); typed = λ l. rw e (typed (frame_code p) (second_code p)) }

  pub kind_off : (length p ≡ packet_size → ⊥) → KindIs p Undefined
  unfolding kind_of
  kind_off h = record { is = rw (ne_eqb (length p) packet_size h); typed = λ l. absurd (h l) }

-- a frame with a burst packet is of a packet's size, and has room for it
module _ (p : List ℕ) (second : Bool) where
  pub burst_size_lem : has_burst (kind_of p) second ≡ true → length p ≡ packet_size
  burst_size_lem e = go (eqb (length p) packet_size) second refl e
    where
      go : (b s : Bool) → eqb (length p) packet_size ≡ b → has_burst (kind_of p) s ≡ true → length p ≡ packet_size
      go true s q e = eqb-true (length p) packet_size q
      go false true q e = absurd (false≢true (unfold kind_of carries_two in rw q at e))
      go false false q e = absurd (false≢true (unfold kind_of carries_burst in rw q at e))

  pub burst_room : (k : Kind) → burst_at k second ≤ second_at
  burst_room k = go (not second && carries_two k)
    where
      go : (b : Bool) → cond b mag_at second_at ≤ second_at
      go true = omega arith
      go false = omega arith

-- the 82 bytes of a burst packet
pub burst_length : (p : List ℕ) (second : Bool) → length p ≡ packet_size → length (burst_bytes p second) ≡ burst_count
burst_length p second h = simp (length-take, length-drop) (omega (arith, h, burst_room p second (kind_of p)))

pub burst_short : (p : List ℕ) (second : Bool) → length (burst_bytes p second) ≤ burst_count
burst_short p second = simp (length-take, length-drop) (omega arith)

-- a frame with a second one has a first
pub two_burst : (k : Kind) → carries_two k ≡ true → carries_burst k ≡ true
unfolding carries_two carries_burst
two_burst (RealTime t) e = e
two_burst HalfBurst e = refl
two_burst FullBurst e = refl
two_burst Other e = e
two_burst Undefined e = e

-- rule 11 holds exactly when the packet's kind is a defined one
pub eleven : (r : List ℕ) → length r ≡ size → type_holds r ≡ defined (kind_of (packet_bytes r))
unfolding type_holds
eleven r h =
    let p = packet_bytes r in
    let l : length p ≡ packet_size = simp (length-take, length-drop) (omega arith) in
    rw (kind_if p l) (tested (frame_code p) (second_code p))

-- rule 11 by the kind that was found
pub eleven_told : (r : List ℕ) → length r ≡ size → {k : Kind} → k ≡ kind_of (packet_bytes r) → defined k ≡ type_holds r
eleven_told r h e = ap defined e ∙ sym (eleven r h)

-- the frames that carry science are the real-time ones
pub science_real : (k : Kind) → carries_science k ≡ is_real_time k
unfolding carries_science is_real_time
science_real (RealTime t) = refl
science_real HalfBurst = refl
science_real FullBurst = refl
science_real Other = refl
science_real Undefined = refl

-- a real-time frame's type is below 36
pub real_type : (p : List ℕ) → is_real_time (kind_of p) ≡ true → frame_type p < 36
real_type p e = go (eqb (length p) packet_size) refl
  where
    go : (b : Bool) → eqb (length p) packet_size ≡ b → frame_type p < 36
    go true q = real_code (frame_code p) (second_code p) (unfold kind_of in rw q at e)
    go false q = absurd (false≢true (unfold kind_of is_real_time in rw q at e))
