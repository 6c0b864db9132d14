-- What is promised of 12-bit numbers at any place, in either order: one law, `Twelve`.
-- Assumes nothing.
use Rattle.std.specs.Prelude.{cond, ◌≡◌, List, ℕ, ◌+◌, ◌*◌, ◌/◌, ◌%◌, ◌<◌, ◌≤◌, eqb, length, get_or}
use Rattle.bits.specs.Numbers.{Order, least, most, bit, join, twelve, twelve_in}

-- every element is a byte
abbrev pub Bytes : List ℕ → Type 0
Bytes b = (i : ℕ) → get_or b i 0 < 256

-- the two halves of a byte, in the order of its bits
unfoldable pub front : Order → ℕ → ℕ
front least x = x % 16
front most x = x / 16

unfoldable pub back : Order → ℕ → ℕ
back least x = x / 16
back most x = x % 16

-- two numbers take three bytes: a byte and the front half of the next, then its back half and a byte
unfoldable pub from_bytes : Order → List ℕ → ℕ → ℕ
from_bytes o b k =
    cond (eqb (k % 2) 0)
    (join o 8 (get_or b (k / 2 * 3) 0) 4 (front o (get_or b (k / 2 * 3 + 1) 0)))
    (join o 4 (back o (get_or b (k / 2 * 3 + 1) 0)) 8 (get_or b (k / 2 * 3 + 2) 0))

-- of the number at place k: what it is; that it is below 4,096; that it depends on its own bits only; that it is what the
-- functions answer where it lies wholly in the bytes; and, of the numbers at places 2k and 2k + 1, that they determine their
-- three bytes
pub record Twelve (o : Order) (b : List ℕ) (k : ℕ) : Type 0 where
  pub is : twelve o b k ≡ from_bytes o b k
  pub small : twelve o b k < 4096
  pub own : (b' : List ℕ) → ((j : ℕ) → j < 12 → bit o b (12 * k + j) ≡ bit o b' (12 * k + j)) → twelve o b k ≡ twelve o b' k
  pub inside : 12 * k + 12 ≤ 8 * length b → twelve_in o b k ≡ twelve o b k
  pub three :
      (b' : List ℕ)
      → Bytes b'
      → twelve o b (2 * k) ≡ twelve o b' (2 * k)
      → twelve o b (2 * k + 1) ≡ twelve o b' (2 * k + 1)
      → (j : ℕ)
      → j < 3
      → get_or b (3 * k + j) 0 ≡ get_or b' (3 * k + j) 0

-- the law, proved as `law` in proofs/TwelveBits.antt: for either order, any bytes and any place
abbrev pub TwelveLaw : Type 0
TwelveLaw = (o : Order) (b : List ℕ) (k : ℕ) → Bytes b → Twelve o b k
