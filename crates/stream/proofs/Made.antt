-- Records and buffers written out, for streams by example.
-- Assumes nothing.
use mathlib.Core.Path.{◌≡◌, refl, sym, ◌∙◌}
use mathlib.Core.Bool.{Bool, true, false, true≢false}
use mathlib.Core.List.{List, [], ◌∷◌, ◌++◌}
use Prim.Native.Nat.{ℕ, zero, suc, ◌/◌, ◌%◌, ◌<◌}
use native.Mathlib.Omega.{arith}
use lib.Dec.{T, ltb, ltb→lt}
use lib.ListN.{get_or, replicate}
use borrow.Author.Tests.{lt-ltb}
use Rattle.prelude.specs.Upto.{both}
use Rattle.prelude.specs.Rules.{first_broken}
use Rattle.prelude.proofs.Upto.{both_left, both_right}
use Rattle.bits.specs.Numbers.{bit_of, bit, join, number}
use Rattle.bits.specs.Twelve.{Bytes}
use Rattle.bits.proofs.WordBytes.{none, more}
use Rattle.clock.specs.Clock.{own_of}
use Rattle.record.specs.Frame.{is_burst, kind_of_codes, kind_of, undefined_codes}
use Rattle.record.specs.Rules.{rules, broken, size_holds, sync_holds, spacecraft_holds, rate_holds, spare_holds, day_holds, millisecond_holds}
use Rattle.record.specs.Rules.{status_spare_holds, flags_hold, type_holds}
use Rattle.record.specs.Contents.{record_of}
use Rattle.record.specs.Frame.{is_real_time}
use Rattle.reader.specs.Buffers.{Buffers, buffers, sized}
use Rattle.reader.proofs.Lengths.{Sizes, is_sized}
use Rattle.stream.specs.Sending.{sent_count, real_time, SentAt}
use Rattle.stream.proofs.Calls.{no_cells, no_samples, no_bytes}

-- a record sent at count c, with Frame Code t and ones in the rest of the packet and in the tail; day 1, flags 01
unfoldable pub made : ℕ → ℕ → List ℕ
made c t =
    (0x1A ∷ 0xCF ∷ 0xFC ∷ 0x1D ∷ 0x66 ∷ 0xC5 ∷ c / 65536 % 256 ∷ c / 256 % 256 ∷ c % 256 ∷ 0 ∷ [])
    ++ (replicate 276 0 ++ (t ∷ (replicate 169 1 ++ (0 ∷ 1 ∷ (replicate 13 0 ++ (0x15 ∷ []))))))

every_byte : List ℕ → Bool
every_byte [] = true
every_byte (x ∷ xs) = both (ltb x 256) (every_byte xs)

bytes_of : (r : List ℕ) → T (every_byte r) → Bytes r
unfolding every_byte
bytes_of [] t i = omega arith
bytes_of (x ∷ r) t zero = ltb→lt x 256 (both_left (ltb x 256) (every_byte r) t)
bytes_of (x ∷ r) t (suc i) = bytes_of r (both_right (ltb x 256) (every_byte r) t) i

-- what a made record of type t is
pub record Right (c t : ℕ) : Type 0 where
  pub bytes : Bytes (made c t)
  pub passes : broken (made c t) ≡ 0
  pub counted : sent_count (made c t) ≡ own_of c
  pub typed : (record_of (made c t)).frame_type ≡ t

module _ (c t : ℕ) (h : t < 256) where
  made_bytes : Bytes (made c t)
  unfolding made every_byte both
  made_bytes =
      let high = lt-ltb (c / 65536 % 256) 256 (omega arith) in
      let low = lt-ltb (c / 256 % 256) 256 (omega arith) in
      bytes_of (made c t) (rw (high, low, lt-ltb (c % 256) 256 (omega arith), lt-ltb) tt)

  -- the count of a record that is made stands in bytes 6 to 8
  made_counted : sent_count (made c t) ≡ own_of c
  unfolding sent_count record_of
  made_counted =
      let r = made c t in
      let one = more r 6 0 (made_bytes 6) in
      let two = more r 6 1 (made_bytes 7) in
      let three = more r 6 2 (made_bytes 8) in
      let high : get_or r 6 0 ≡ c / 65536 % 256 = unfold made in refl in
      let middle : get_or r 7 0 ≡ c / 256 % 256 = unfold made in refl in
      let low : get_or r 8 0 ≡ c % 256 = unfold made in refl in
      omega (arith, none r 6, two, three, high, middle, low)

  is_right : broken (made c t) ≡ 0 → (record_of (made c t)).frame_type ≡ t → Right c t
  is_right p q = record { bytes = made_bytes; passes = p; counted = made_counted; typed = q }

-- real-time records of types 5 and 6, and other ones of type 62
module _ (c : ℕ) where
  rights : Right c 5 × Right c 6 × Right c 62
  unfolding made broken first_broken rules size_holds sync_holds spacecraft_holds rate_holds spare_holds day_holds millisecond_holds
      status_spare_holds flags_hold type_holds undefined_codes is_burst record_of number join bit bit_of
  rights = (is_right c 5 (omega arith) refl refl, is_right c 6 (omega arith) refl refl, is_right c 62 (omega arith) refl refl)

  pub five : Right c 5
  five = rights.0

  pub six : Right c 6
  six = rights.1

  pub filler : Right c 62
  filler = rights.2

-- the kinds of the records that are made
module _ (c : ℕ) where
  pub real_five : real_time (made c 5) ≡ true
  unfolding made is_real_time record_of kind_of kind_of_codes is_burst
  real_five = refl

  pub real_six : real_time (made c 6) ≡ true
  unfolding made is_real_time record_of kind_of kind_of_codes is_burst
  real_six = refl

  pub other_filler : real_time (made c 62) ≡ false
  unfolding made is_real_time record_of kind_of kind_of_codes is_burst
  other_filler = refl

-- sent in their turn
module _ (c k : ℕ) where
  sent_real : (t : ℕ) → Right c t → k % 36 ≡ t → SentAt c k (made c t)
  sent_real t r e = record { bytes = r.bytes; passes = r.passes; counted = r.counted; typed = λ q. r.typed ∙ sym e }

  pub sent_five : k % 36 ≡ 5 → SentAt c k (made c 5)
  sent_five e = sent_real 5 (five c) e

  pub sent_six : k % 36 ≡ 6 → SentAt c k (made c 6)
  sent_six e = sent_real 6 (six c) e

  pub sent_filler : SentAt c k (made c 62)
  sent_filler =
      let r = filler c in
      record { bytes = r.bytes; passes = r.passes; counted = r.counted; typed = λ t. absurd (true≢false (sym t ∙ other_filler c)) }

-- buffers of 0
unfoldable pub lent : Buffers
lent = buffers no_cells no_cells no_samples no_samples no_bytes no_bytes no_bytes

pub lent_lengths : Sizes lent
unfolding lent
lent_lengths = omega arith

pub lent_sized : sized lent ≡ true
lent_sized = is_sized lent lent_lengths
