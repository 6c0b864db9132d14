-- Two 12-bit numbers written as three bytes, in either order: the law is `PairLaw`; `PairPlaces` says which numbers they are.
-- Assumes nothing.
use Rattle.std.specs.Prelude.{cond, ◌&&◌, List, ◌⊎◌, ◌≡◌, ℕ, ◌+◌, ◌*◌, ◌<◌, ◌≤◌, ltb, length, drop}
use Rattle.buffers.specs.Laying.{laid}
use Rattle.bits.specs.Numbers.{Order, join, twelve, twelve_in}
use Rattle.bits.specs.Twelve.{Bytes}
use Rattle.bits.specs.Putting.{bytes_of, OwnOnly}

-- the three bytes of two numbers below 4,096: those of the number of 24 bits that the one makes with the other after it
unfoldable pub pair_bytes : Order → ℕ → ℕ → List ℕ
pair_bytes o x y = bytes_of o 3 (join o 12 x 12 y)

-- the room with the two numbers from place `at` on; the room as found where their bytes don't lie wholly in it or one of them is
-- too wide
unfoldable pub pair_put : Order → List ℕ → ℕ → ℕ → ℕ → List ℕ
pair_put o room at x y = cond (ltb x 4096 && ltb y 4096) (laid (pair_bytes o x y) room at) room

-- of two numbers written: both read back; two written as they were read change nothing; only their own bytes change; none is
-- written where one is too wide; and their bytes are the only three that read so
pub record PairWritten (o : Order) (room : List ℕ) (at x y : ℕ) : Type 0 where
  pub first : at + 3 ≤ length room → x < 4096 → y < 4096 → twelve_in o (drop at (pair_put o room at x y)) 0 ≡ x
  pub second : at + 3 ≤ length room → x < 4096 → y < 4096 → twelve_in o (drop at (pair_put o room at x y)) 1 ≡ y
  pub forth : Bytes room → pair_put o room at (twelve_in o (drop at room) 0) (twelve_in o (drop at room) 1) ≡ room
  pub own : OwnOnly room (pair_put o room at x y) at 3
  pub wide : (4096 ≤ x) ⊎ (4096 ≤ y) → pair_put o room at x y ≡ room
  pub only : (b : List ℕ) → length b ≡ 3 → Bytes b → twelve o b 0 ≡ x → twelve o b 1 ≡ y → pair_bytes o x y ≡ b

-- the law, proved as `law` in proofs/PairsPut.antt: for either order
abbrev pub PairLaw : Type 0
PairLaw = (o : Order) (room : List ℕ) (at x y : ℕ) → PairWritten o room at x y

-- the pair at byte 3j is the numbers at places 2j and 2j + 1, and so on from there: number k of the bytes from byte 3j on is the one at
-- place 2j + k. Proved as `places` in proofs/PairsPut.antt, for either order
abbrev pub PairPlaces : Type 0
PairPlaces = (o : Order) (b : List ℕ) (j k : ℕ) → twelve_in o (drop (3 * j) b) k ≡ twelve_in o b (2 * j + k)
