-- The law of words written, over the width.
-- Assumes nothing.
use mathlib.Core.Bool.{Bool, true, false}
use mathlib.Core.List.{List}
use mathlib.Core.Path.{◌≡◌, refl, sym, ap, ◌∙◌}
use Prim.Native.Nat.{ℕ, ◌+◌, ◌*◌, ◌^◌, ◌<◌, ◌≤◌}
use native.Mathlib.Nat.{add-zero}
use native.Mathlib.Omega.{arith}
use lib.Dec.{leb, ltb}
use lib.ListN.{length, take, drop, length-drop}
use lib.Seq.{length-take-le}
use borrow.Author.Tests.{leb-true, leb-false, lt-ltb, le-ltb}
use Rattle.buffers.specs.Laying.{laid}
use Rattle.buffers.proofs.Patches.{length_laid}
use Rattle.bits.specs.Numbers.{most, number, word_in}
use Rattle.bits.specs.Twelve.{Bytes}
use Rattle.bits.specs.Putting.{bytes_of, word_put, OwnOnly, WordLaw}
use Rattle.bits.proofs.BytesOf.{length_bytes, bytes_back, bytes_forth, bytes_part, number_part}
use Rattle.bits.proofs.Rooms.{part_laid, laid_same, own_only}
use Rattle.bits.proofs.WordBytes.{inside, small_word}

-- a word is that of its own bytes
pub word_part : (b : List ℕ) (at n : ℕ) → at + n ≤ length b → word_in b at n ≡ number most (take n (drop at b)) 0 (8 * n)
word_part b at n h = sym (inside b at n h) ∙ rw add-zero at (number_part most b at n 0 (8 * n) (omega arith))

-- written where it is not too wide
pub narrow : (room : List ℕ) (at n x : ℕ) → x < 2 ^ (8 * n) → laid (bytes_of most n x) room at ≡ word_put room at n x
unfolding word_put
narrow room at n x h = rw lt-ltb

pub wide : (room : List ℕ) (at n x : ℕ) → 2 ^ (8 * n) ≤ x → room ≡ word_put room at n x
unfolding word_put
wide room at n x h = rw le-ltb

back : (room : List ℕ) (at n x : ℕ) → at + n ≤ length room → x < 2 ^ (8 * n) → word_in (word_put room at n x) at n ≡ x
back room at n x h l =
    let s = bytes_of most n x in
    let k : at + n ≤ length (laid s room at) = omega (arith, length_laid s room at) in
    rw (← narrow room at n x l, word_part (laid s room at) at n k, part_laid room at s n (length_bytes most n x) h) (bytes_back most n x l)

own : (room : List ℕ) (at n x : ℕ) → OwnOnly room (word_put room at n x) at n
unfolding word_put
own room at n x = own_only room at (ltb x (2 ^ (8 * n))) (bytes_of most n x) n (length_bytes most n x)

-- what was read changes nothing
forth : (room : List ℕ) (at n : ℕ) → Bytes room → word_put room at n (word_in room at n) ≡ room
forth room at n bytes = go (leb (at + n) (length room)) refl
  where
    w : ℕ
    w = word_in room at n

    go : (t : Bool) → leb (at + n) (length room) ≡ t → word_put room at n w ≡ room
    go true t =
        let h = leb-true (at + n) (length room) t in
        let p = take n (drop at room) in
        let l : length p ≡ n = length-take-le n (drop at room) (simp length-drop (omega arith)) in
        let e : bytes_of most n w ≡ p = rw (word_part room at n h) (bytes_forth most p n l (bytes_part room at n bytes)) in
        sym (narrow room at n w (small_word room at n)) ∙ ap (λ (s : List ℕ). laid s room at) e ∙ laid_same room at n h
    go false t = (own room at n w).outside (leb-false (at + n) (length room) t)

pub law : WordLaw
law room at n x = record {
  back = back room at n x;
  forth = forth room at n;
  own = own room at n x;
  wide = λ h. sym (wide room at n x h);
}
