-- Numbers written as bytes, in either order, and words written into a room: the laws are `OwnOnly` and `WordLaw`.
-- Assumes nothing.
use Rattle.std.specs.Prelude.{cond, List, ◌≡◌, ℕ, suc, ◌+◌, ◌-◌, ◌*◌, ◌/◌, ◌%◌, ◌^◌, ◌<◌, ◌≤◌, ltb, length, get_or}
use Rattle.prelude.specs.Build.{build}
use Rattle.buffers.specs.Laying.{laid}
use Rattle.bits.specs.Numbers.{Order, least, most, word_in}
use Rattle.bits.specs.Twelve.{Bytes}

-- how many of n bytes weigh less than byte k
abbrev pub rank_of : Order → ℕ → ℕ → ℕ
rank_of least n k = k
rank_of most n k = n - suc k

-- the n bytes of a number below 2 ^ (8 n): least significant first, or most
unfoldable pub bytes_of : Order → ℕ → ℕ → List ℕ
bytes_of o n x = build (λ k. x / 2 ^ (8 * rank_of o n k) % 256) n

-- the room with a word of n bytes from place `at` on, most significant first; the room as found where the word doesn't lie wholly
-- in it or the number is too wide
unfoldable pub word_put : List ℕ → ℕ → ℕ → ℕ → List ℕ
word_put room at n x = cond (ltb x (2 ^ (8 * n))) (laid (bytes_of most n x) room at) room

-- of a room before and after n bytes were written from place `at` on: the length and every other place stay, and all of it
-- stays where the bytes don't lie wholly in the room
pub record OwnOnly (room after : List ℕ) (at n : ℕ) : Type 0 where
  pub size : length after ≡ length room
  pub left : (p : ℕ) → p < at → get_or after p 0 ≡ get_or room p 0
  pub right : (p : ℕ) → at + n ≤ p → get_or after p 0 ≡ get_or room p 0
  pub outside : length room < at + n → after ≡ room

-- of a word written: it reads back; one written as it was read changes nothing; only its own bytes change; one too wide isn't
-- written
pub record WordWritten (room : List ℕ) (at n x : ℕ) : Type 0 where
  pub back : at + n ≤ length room → x < 2 ^ (8 * n) → word_in (word_put room at n x) at n ≡ x
  pub forth : Bytes room → word_put room at n (word_in room at n) ≡ room
  pub own : OwnOnly room (word_put room at n x) at n
  pub wide : 2 ^ (8 * n) ≤ x → word_put room at n x ≡ room

-- the law, proved as `law` in proofs/WordsPut.antt: for any width, room, place and number
abbrev pub WordLaw : Type 0
WordLaw = (room : List ℕ) (at n x : ℕ) → WordWritten room at n x
