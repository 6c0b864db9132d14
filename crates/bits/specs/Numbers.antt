-- Numbers in bytes, bit by bit, in either order of the bits. A list's element past its end counts as 0.
-- Assumes nothing.
use Rattle.std.specs.Prelude.{cond, ℕ, zero, suc, ◌+◌, ◌-◌, ◌*◌, ◌/◌, ◌%◌, ◌^◌, List, leb, length, get_or}
use Rattle.bits.specs.declared.order.Order.{Order as Named}
use Rattle.bits.specs.declared.order.Order.TheVariants.{Least, Most}

-- Which bit comes first, of a byte and of a number alike.
-- least: "Bit numbers start at zero for the LSB of the first byte" (000, section 2.2).
-- most: "most significant first" (01, "The record"); "MSB left-justified" (003, section 2.1).
pub data Order : Type 0 where
  least : Order
  most : Order

-- the order that an `Order` of the code names
abbrev pub order_of : Named → Order
order_of Least = least
order_of Most = most

-- bit j of the byte x, from 0
unfoldable pub bit_of : Order → ℕ → ℕ → ℕ
bit_of least x j = x / 2 ^ j % 2
bit_of most x j = x / 2 ^ (7 - j) % 2

-- bit i of the bytes b, from 0: eight bits a byte, the first byte's first
unfoldable pub bit : Order → List ℕ → ℕ → ℕ
bit o b i = bit_of o (get_or b (i / 8) 0) (i % 8)

-- x in m bits, followed by y in n bits: the first bit weighs 1, or the last does
unfoldable pub join : Order → ℕ → ℕ → ℕ → ℕ → ℕ
join least m x n y = y * 2 ^ m + x
join most m x n y = x * 2 ^ n + y

-- the number in the n bits of b from bit i
unfoldable pub number : Order → List ℕ → ℕ → ℕ → ℕ
number o b i zero = 0
number o b i (suc n) = join o n (number o b i n) 1 (bit o b (i + n))

-- the n-bit number from bit i on, or 0 where it doesn't lie wholly in the bytes
abbrev pub number_in : Order → List ℕ → ℕ → ℕ → ℕ
number_in o b i n = cond (leb (i + n) (8 * length b)) (number o b i n) 0

-- n bytes from place at, most significant first (01, "The record")
abbrev pub word_in : List ℕ → ℕ → ℕ → ℕ
word_in b at n = number_in most b (8 * at) (8 * n)

-- the 12-bit number at place k: bits 12k to 12k + 11 (000, section 2.2: sample 0's x is bits 0-11, y 12-23, z 24-35, ..; its
-- blocks of two samples, 72 bits each, follow without a gap, so that counting on through them gives the same places)
abbrev pub twelve : Order → List ℕ → ℕ → ℕ
twelve o b k = number o b (12 * k) 12

-- the 12-bit number at place k, or 0 where it doesn't lie wholly in the bytes
abbrev pub twelve_in : Order → List ℕ → ℕ → ℕ
twelve_in o b k = number_in o b (12 * k) 12
