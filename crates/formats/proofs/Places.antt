-- Fields in a room and in bytes: what bits' definitions write is the field laid over the room, and what they read is the field read
-- at its place.
-- Assumes nothing.
use mathlib.Core.List.{List}
use mathlib.Core.Option.{some}
use mathlib.Core.Path.{◌≡◌, sym, ap, ◌∙◌}
use Prim.Native.Nat.{ℕ, ◌+◌, ◌*◌, ◌<◌, ◌≤◌}
use native.Mathlib.Nat.{add-zero, mul_comm}
use native.Mathlib.Numerals.{add-one}
use native.Mathlib.Omega.{arith}
use lib.IntN.{ℤ}
use lib.ListN.{length, get_or, set, take, drop, length-drop}
use lib.Seq.{set_split, drop-drop, get_or-take, get_or-drop, length-take-le}
use Rattle.prelude.specs.Build.{build}
use Rattle.buffers.specs.Laying.{patch}
use Rattle.buffers.proofs.Patches.{laid_in}
use Rattle.bits.specs.Numbers.{Order, most, word_in, twelve_in}
use Rattle.bits.specs.Putting.{bytes_of, word_put}
use Rattle.bits.specs.Signed.{unsigned_of, signed_in, signed_put}
use Rattle.bits.specs.Pairs.{pair_bytes, pair_put}
use Rattle.bits.proofs.BytesOf.{length_bytes}
use Rattle.bits.proofs.WordsPut.{word_part, narrow}
use Rattle.bits.proofs.SignedPut as signed
use Rattle.bits.proofs.PairsPut as pairs
use Rattle.formats.specs.Part.{read_at}
use Rattle.formats.specs.Wholes.{◌twos◌}
use Rattle.formats.specs.Fields.{word, byte, signed16, pair_of}
use Rattle.formats.proofs.Fields.{exact, exact_pair, pair_law}
use Rattle.formats.proofs.Offsets.{twos_at}

-- Each kind written into a room, where it lies wholly in it.
module _ (room : List ℕ) (at : ℕ) where
  pub word_put_lem : (n x : ℕ) → at + n ≤ length room → (word n).Holds x → word_put room at n x ≡ patch room at ((word n).write x)
  word_put_lem n x h k = cc (narrow room at n x k, laid_in (bytes_of most n x) room at (omega (arith, length_bytes most n x)))

  pub signed16_put : (z : ℤ) → at + 2 ≤ length room → signed16.Holds z → signed_put room at z ≡ patch room at (signed16.write z)
  signed16_put z h k = cc (signed.narrow room at z k, word_put_lem 2 (unsigned_of z) h (signed.unsigned_small z k))

  pub pair_put_lem : (o : Order) (x y : ℕ) → at + 3 ≤ length room → x < 4096 → y < 4096 → pair_put o room at x y ≡ patch room at ((pair_of o).write (x, y))
  pair_put_lem o x y h i j = cc (pairs.narrow o room at x y i j, laid_in (pair_bytes o x y) room at (omega (arith, pairs.length_pair o x y)))

  pub byte_put : (x : ℕ) → at < length room → set room at x ≡ patch room at (byte.write x)
  unfolding patch
  byte_put x h = rw (add-one at) (set_split room at x h)

-- Each kind read at its place, where it lies wholly in the bytes.
module _ (b : List ℕ) (at : ℕ) where
  part_length : (n : ℕ) → at + n ≤ length b → length (take n (drop at b)) ≡ n
  part_length n h = length-take-le n (drop at b) (simp length-drop (omega arith))

  word_same : (n : ℕ) → at + n ≤ length b → word_in (take n (drop at b)) 0 n ≡ word_in b at n
  word_same n h = cc (exact (take n (drop at b)) n (part_length n h), word_part b at n h)

  pub word_read : (n : ℕ) → at + n ≤ length b → read_at (word n) b at ≡ some (word_in b at n)
  word_read n h = ap some (word_same n h)

  pub signed16_read : at + 2 ≤ length b → read_at signed16 b at ≡ some (signed_in b at)
  signed16_read h = rw word_same

  pub pair_read : (o : Order) → at + 3 ≤ length b → read_at (pair_of o) b at ≡ some (twelve_in o (drop at b) 0, twelve_in o (drop at b) 1)
  pair_read o h =
      let l = part_length 3 h in
      rw (
        exact_pair o (take 3 (drop at b)) 0 (omega arith) l,
        exact_pair o (take 3 (drop at b)) 1 (omega arith) l,
        pairs.numbers o b at 0 (omega arith) h,
        pairs.numbers o b at 1 (omega arith) h,
      )

  pub byte_read : read_at byte b at ≡ some (get_or b at 0)
  byte_read = ap some (get_or-take 1 (drop at b) 0 0 (omega arith) ∙ get_or-drop at b 0 0 ∙ rw (add-zero at))

-- n pairs of 12-bit numbers, one by one: those that stand from there on
pub twelves_read : (o : Order) (b : List ℕ) (at n : ℕ) → at + n * 3 ≤ length b
    → read_at (n twos pair_of o) b at ≡ some (build (twelve_in o (drop at b)) (2 * n))
twelves_read o b at n l = (twos_at (pair_law o)).told b at n (twelve_in o (drop at b)) l each
  where
    each : (k : ℕ) → k < n → read_at (pair_of o) b (at + k * 3) ≡ some (twelve_in o (drop at b) (2 * k), twelve_in o (drop at b) (2 * k + 1))
    each k h =
        let e = ap (λ m. drop (at + m) b) (mul_comm k 3) ∙ sym (drop-drop (3 * k) at b) in
        let x = pairs.places o (drop at b) k 0 in
        let y = pairs.places o (drop at b) k 1 in
        pair_read b (at + k * 3) o (omega arith) ∙ rw (e, x, y, add-zero (2 * k))
