-- The law of signed 16-bit numbers.
-- Assumes nothing.
use mathlib.Core.Bool.{Bool, true, false, cond}
use mathlib.Core.List.{List}
use mathlib.Core.Path.{◌≡◌, sym, ◌∙◌}
use Prim.Native.Nat.{ℕ, suc, ◌+◌, ◌-◌, ◌<◌, ◌≤◌}
use native.Mathlib.Omega.{arith}
use lib.Dec.{ltb}
use lib.IntN.{ℤ, pos, negsuc, ◌-ℤ◌}
use lib.ListN.{length}
use lib.Signed.{mag}
use borrow.Author.Tests.{lt-ltb, le-ltb, ltb-true, ltb-false}
use Rattle.prelude.proofs.Conds.{cases}
use Rattle.bits.specs.Numbers.{most, word_in}
use Rattle.bits.specs.Twelve.{Bytes}
use Rattle.bits.specs.Putting.{bytes_of, word_put, OwnOnly}
use Rattle.bits.specs.Signed.{signed_of, unsigned_of, InSixteen, signed_in, signed_put, SignedLaw}
use Rattle.bits.proofs.BytesOf.{length_bytes}
use Rattle.bits.proofs.Rooms.{own_only}
use Rattle.bits.proofs.WordBytes.{small_word}
use Rattle.bits.proofs.WordsPut as words

less : (w : ℕ) → w < 65536 → pos w -ℤ pos 65536 ≡ negsuc (65536 - suc w)
less w h = rw lt-ltb

-- a number and the word that stands for it
pub unsigned_small : (z : ℤ) → InSixteen z → unsigned_of z < 65536
unsigned_small (pos n) h = omega arith
unsigned_small (negsuc n) h = omega arith

pub signed_back : (z : ℤ) → InSixteen z → signed_of (unsigned_of z) ≡ z
signed_back (pos n) h = rw lt-ltb
signed_back (negsuc n) h =
    let e : 65536 - suc (65536 - suc n) ≡ n = omega arith in
    rw (le-ltb (65536 - suc n) 32768 (omega arith), less (65536 - suc n) (omega arith), e)

pub signed_forth : (w : ℕ) → w < 65536 → unsigned_of (signed_of w) ≡ w
signed_forth w h = cases (ltb w 32768) (λ t. rw t) (λ t. rw (t, less w h) (omega arith))

-- what a word stands for is never too wide
pub signed_fits : (w : ℕ) → w < 65536 → InSixteen (signed_of w)
signed_fits w h =
    cases (ltb w 32768)
    (λ t. rw t (ltb-true w 32768 t))
    (λ t. rw (t, less w h) (omega (arith, ltb-false w 32768 t)))

module _ (room : List ℕ) (at : ℕ) where
  -- written where it is not too wide
  pub narrow : (z : ℤ) → InSixteen z → word_put room at 2 (unsigned_of z) ≡ signed_put room at z
  unfolding signed_put
  narrow z h = rw lt-ltb

  too_wide : (z : ℤ) → 32768 ≤ mag z → signed_put room at z ≡ room
  unfolding signed_put
  too_wide z h = rw le-ltb

  own : (z : ℤ) → OwnOnly room (signed_put room at z) at 2
  unfolding signed_put
  own z = go (ltb (mag z) 32768)
    where
      w : ℕ
      w = unsigned_of z

      go : (t : Bool) → OwnOnly room (cond t (word_put room at 2 w) room) at 2
      go true = (words.law room at 2 w).own
      go false = own_only room at false (bytes_of most 2 w) 2 (length_bytes most 2 w)

  back : (z : ℤ) → at + 2 ≤ length room → InSixteen z → signed_in (signed_put room at z) at ≡ z
  back z h k = rw (← narrow z k, (words.law room at 2 (unsigned_of z)).back h (unsigned_small z k)) (signed_back z k)

  forth : Bytes room → signed_put room at (signed_in room at) ≡ room
  forth h =
      let w = word_in room at 2 in
      let l = small_word room at 2 in
      sym (narrow (signed_of w) (signed_fits w l)) ∙ rw (signed_forth w l) ((words.law room at 2 0).forth h)

pub law : SignedLaw
law room at z = record { back = back room at z; forth = forth room at; own = own room at z; wide = too_wide room at z }
