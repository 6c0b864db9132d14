-- The parts that formats are made of. Each has its law in proofs/Fields.antt, and in proofs/Places.antt that bits' functions write
-- and read it.
-- Assumes nothing.
use Rattle.std.specs.Prelude.{Bool, true, false, cond, ◌&&◌, List, [], ◌∷◌, ℕ, ◌*◌, ◌^◌, ◌<◌, eqb, ℤ, length, get_or}
use Rattle.std.proofs.Math.Option.{none, some}
use Rattle.bits.specs.Numbers.{Order, most, word_in, twelve_in}
use Rattle.bits.specs.Putting.{bytes_of}
use Rattle.bits.specs.Signed.{unsigned_of, InSixteen, signed_in}
use Rattle.bits.specs.Pairs.{pair_bytes}
use Rattle.formats.specs.Part.{Part}

-- a word of n bytes, most significant first
abbrev pub word : ℕ → Part ℕ
word n = record { size = n; Holds = λ x. x < 2 ^ (8 * n); write = bytes_of most n; read = λ b. some (word_in b 0 n) }

abbrev pub byte : Part ℕ
byte = record { size = 1; Holds = λ x. x < 256; write = λ x. x ∷ []; read = λ b. some (get_or b 0 0) }

-- a signed 16-bit number, two's complement, most significant byte first
abbrev pub signed16 : Part ℤ
signed16 = record { size = 2; Holds = InSixteen; write = λ z. bytes_of most 2 (unsigned_of z); read = λ b. some (signed_in b 0) }

-- two 12-bit numbers in three bytes
abbrev pub pair_of : Order → Part (ℕ × ℕ)
pair_of o = record {
  size = 3;
  Holds = λ v. (v.0 < 4096) × (v.1 < 4096);
  write = λ v. pair_bytes o v.0 v.1;
  read = λ b. some (twelve_in o b 0, twelve_in o b 1);
}

unfoldable pub same : List ℕ → List ℕ → Bool
same [] [] = true
same [] (y ∷ ys) = false
same (x ∷ xs) [] = false
same (x ∷ xs) (y ∷ ys) = eqb x y && same xs ys

-- always the same bytes, a mark for instance; no others read as one
abbrev pub fixed : List ℕ → Part (Unit {0})
fixed m = record { size = length m; Holds = λ v. Unit {0}; write = λ v. m; read = λ b. cond (same b m) (some tt) none }
