-- Signed 16-bit numbers, two's complement, most significant byte first: the law is `SignedLaw`.
-- Assumes nothing.
use Rattle.std.specs.Prelude.{cond, List, ◌≡◌, ℕ, suc, ◌+◌, ◌-◌, ◌<◌, ◌≤◌, ltb, ℤ, pos, negsuc, ◌-ℤ◌, length}
use Rattle.std.specs.Int.Signed.{mag}
use Rattle.bits.specs.Numbers.{word_in}
use Rattle.bits.specs.Twelve.{Bytes}
use Rattle.bits.specs.Putting.{OwnOnly, word_put}

-- the number that a word of 16 bits stands for: below 2 ^ 15 the word itself, else 2 ^ 16 less
abbrev pub signed_of : ℕ → ℤ
signed_of w = cond (ltb w 32768) (pos w) (pos w -ℤ pos 65536)

-- the word that stands for a number: the number itself, or where it is negative 2 ^ 16 more (negsuc n is -(n + 1))
abbrev pub unsigned_of : ℤ → ℕ
unsigned_of (pos n) = n
unsigned_of (negsuc n) = 65536 - suc n

-- from -32,768 to 32,767: mag is n both of n and of -(n + 1)
abbrev pub InSixteen : ℤ → Type 0
InSixteen z = mag z < 32768

-- the number at place `at`, or 0 where it doesn't lie wholly in the bytes
abbrev pub signed_in : List ℕ → ℕ → ℤ
signed_in b at = signed_of (word_in b at 2)

-- the room with the number at place `at`; the room as found where its bytes don't lie wholly in it or the number is too wide
unfoldable pub signed_put : List ℕ → ℕ → ℤ → List ℕ
signed_put room at z = cond (ltb (mag z) 32768) (word_put room at 2 (unsigned_of z)) room

-- of a number written: it reads back; one written as it was read changes nothing; only its own bytes change; one too wide isn't
-- written
pub record SignedWritten (room : List ℕ) (at : ℕ) (z : ℤ) : Type 0 where
  pub back : at + 2 ≤ length room → InSixteen z → signed_in (signed_put room at z) at ≡ z
  pub forth : Bytes room → signed_put room at (signed_in room at) ≡ room
  pub own : OwnOnly room (signed_put room at z) at 2
  pub wide : 32768 ≤ mag z → signed_put room at z ≡ room

-- the law, proved as `law` in proofs/SignedPut.antt
abbrev pub SignedLaw : Type 0
SignedLaw = (room : List ℕ) (at : ℕ) (z : ℤ) → SignedWritten room at z
