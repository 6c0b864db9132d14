-- The columns of a record, as the words that the code reads: bits of a word are a quotient and a remainder of it.
-- Assumes nothing.
use mathlib.Core.Path.{◌≡◌, refl, sym}
use mathlib.Core.Bool.{Bool, true, false, ◌&&◌}
use mathlib.Core.List.{List}
use Prim.Native.Nat.{ℕ, ◌+◌, ◌*◌, ◌/◌, ◌%◌, ◌<◌, ◌≤◌}
use native.Mathlib.Omega.{arith}
use lib.Dec.{eqb, leb, ltb}
use lib.ListN.{length, get_or}
use borrow.Author.Tests.{le-leb, lt-leb, lt-ltb, eq-eqb, eqb-true, eqb-false, ltb-true, leb-true}
use Rattle.bits.specs.Numbers.{most, word_in}
use Rattle.bits.proofs.Numbers.{below, within, number_byte}
use Rattle.record.specs.Layout.{size, bytes_at, version, spacecraft, rate, day, millisecond, status_spare, first_flag, second_flag, third_flag}
use Rattle.record.specs.Rules.{sync_holds, spacecraft_holds, rate_holds, spare_holds, day_holds, millisecond_holds, status_spare_holds, flag_holds, flags_hold}

-- two tests agree where each holds when the other does
agree : (a b : Bool) → (a ≡ true → b ≡ true) → (b ≡ true → a ≡ true) → a ≡ b
agree true b f g = sym (f refl)
agree false true f g = g refl
agree false false f g = refl

-- the two bytes' upper ten bits, as one number and as two fields
ten : (h : ℕ) → h < 65536 → eqb (h / 64) 411 ≡ (eqb (h / 16384 % 4) 1 && eqb (h / 64 % 256) 155)
ten h k = go (eqb (h / 64) 411) refl
  where
    no : (a b : Bool) → eqb (h / 16384 % 4) 1 ≡ a → eqb (h / 64 % 256) 155 ≡ b → (h / 64 ≡ 411 → ⊥) → (a && b) ≡ false
    no true true p q n = absurd (n (omega (arith, eqb-true (h / 16384 % 4) 1 p, eqb-true (h / 64 % 256) 155 q)))
    no true false p q n = refl
    no false b p q n = refl

    go : (t : Bool) → eqb (h / 64) 411 ≡ t → t ≡ (eqb (h / 16384 % 4) 1 && eqb (h / 64 % 256) 155)
    go true t =
        let e : h / 64 ≡ 411 = eqb-true (h / 64) 411 t in
        rw (eq-eqb (h / 16384 % 4) 1 (omega arith), eq-eqb (h / 64 % 256) 155 (omega arith))
    go false t = sym (no _ _ refl refl (eqb-false (h / 64) 411 t))

module _ (r : List ℕ) where
  -- the fields of the header word and of the status word
  version_is : version r ≡ bytes_at r 4 2 / 16384 % 4
  version_is = within r 32 0 2 14

  spacecraft_is : spacecraft r ≡ bytes_at r 4 2 / 64 % 256
  spacecraft_is = within r 32 2 8 6

  rate_is : rate r ≡ bytes_at r 4 2 / 1 % 64
  rate_is = within r 32 10 6 0

  spare_is : status_spare r ≡ bytes_at r 470 2 / 64 % 1024
  spare_is = within r 3760 0 10 6

  pub first_is : first_flag r ≡ bytes_at r 470 2 / 16 % 4
  first_is = within r 3760 10 2 4

  pub second_is : second_flag r ≡ bytes_at r 470 2 / 4 % 4
  second_is = within r 3760 12 2 2

  pub third_is : third_flag r ≡ bytes_at r 470 2 % 4
  third_is = let e : third_flag r ≡ bytes_at r 470 2 / 1 % 4 = within r 3760 14 2 0 in omega arith

  two_bytes : (k : ℕ) → bytes_at r k 2 < 65536
  two_bytes k = below most r (8 * k) 16

  module _ (sized : length r ≡ size) where
    -- a word that the code reads is the column's bytes
    pub word : (at n : ℕ) → at + n ≤ size → word_in r at n ≡ bytes_at r at n
    word at n h = rw (le-leb (8 * at + 8 * n) (8 * length r) (omega arith))

    pub sync_test : eqb (word_in r 0 4) 449838109 ≡ sync_holds r
    unfolding sync_holds
    sync_test = rw (word 0 4 (omega arith))

    pub spacecraft_test : eqb (word_in r 4 2 / 64) 411 ≡ spacecraft_holds r
    unfolding spacecraft_holds
    spacecraft_test = rw (word 4 2 (omega arith), version_is, spacecraft_is) (ten (bytes_at r 4 2) (two_bytes 4))

    pub rate_test : eqb (word_in r 4 2 % 64) 5 ≡ rate_holds r
    unfolding rate_holds
    rate_test = let e : word_in r 4 2 % 64 ≡ rate r = omega (arith, word 4 2 (omega arith), rate_is) in rw e

    pub spare_test : get_or r 9 0 < 256 → eqb (get_or r 9 0) 0 ≡ spare_holds r
    unfolding spare_holds
    spare_test h = rw (number_byte most r 9 h)

    pub day_low : word_in r 456 2 < 1 → false ≡ day_holds r
    unfolding day_holds
    day_low h = let e = word 456 2 (omega arith) in rw (lt-leb 1 (day r) (omega arith))

    pub day_high : 366 < word_in r 456 2 → false ≡ day_holds r
    unfolding day_holds
    day_high h =
        let e = word 456 2 (omega arith) in
        rw (le-leb 1 (day r) (omega arith), lt-leb (day r) 366 (omega arith))

    pub day_within : 1 ≤ word_in r 456 2 → word_in r 456 2 ≤ 366 → true ≡ day_holds r
    unfolding day_holds
    day_within l h =
        let e = word 456 2 (omega arith) in
        rw (le-leb 1 (day r) (omega arith), le-leb (day r) 366 (omega arith))

    pub millisecond_test : ltb (word_in r 458 4) 86400000 ≡ millisecond_holds r
    unfolding millisecond_holds
    millisecond_test =
        let m = millisecond r in
        let below : ltb m 86400000 ≡ true → leb m 86399999 ≡ true = λ t. le-leb m 86399999 (omega (arith, ltb-true m 86400000 t)) in
        let above : leb m 86399999 ≡ true → ltb m 86400000 ≡ true = λ t. lt-ltb m 86400000 (omega (arith, leb-true m 86399999 t)) in
        rw (word 458 4 (omega arith)) (agree (ltb m 86400000) (leb m 86399999) below above)

    pub status_test : eqb (word_in r 470 2 / 64) 0 ≡ status_spare_holds r
    unfolding status_spare_holds
    status_test = let e : word_in r 470 2 / 64 ≡ status_spare r = omega (arith, word 470 2 (omega arith), spare_is, two_bytes 470) in rw e

    pub flags_test : (w : ℕ) → w ≡ word_in r 470 2 → flags_hold r ≡ (flag_holds (w / 16 % 4) && (flag_holds (w / 4 % 4) && flag_holds (w % 4)))
    unfolding flags_hold
    flags_test w e = rw (e, word 470 2 (omega arith), first_is, second_is, third_is)
