-- The law of two 12-bit numbers written as three bytes, for either order.
-- Assumes nothing.
use mathlib.Core.Bool.{Bool, true, false, ◌&&◌}
use mathlib.Core.List.{List}
use mathlib.Core.Logic.{◌⊎◌, inl, inr}
use mathlib.Core.Path.{◌≡◌, refl, sym, ap, ◌∙◌}
use Prim.Native.Nat.{ℕ, ◌+◌, ◌*◌, ◌<◌, ◌≤◌}
use native.Mathlib.Nat.{zero-add}
use native.Mathlib.Omega.{arith}
use lib.Dec.{leb, ltb}
use lib.ListN.{length, take, drop, length-drop}
use lib.Seq.{length-take-le, take-length}
use borrow.Author.Tests.{leb-true, leb-false, le-leb, lt-leb, lt-ltb, le-ltb}
use Rattle.prelude.proofs.Conds.{cases}
use Rattle.buffers.specs.Laying.{laid}
use Rattle.buffers.proofs.Patches.{length_laid}
use Rattle.bits.specs.Numbers.{Order, least, most, join, number, twelve, twelve_in}
use Rattle.bits.specs.Twelve.{Bytes}
use Rattle.bits.specs.Putting.{bytes_of, OwnOnly}
use Rattle.bits.specs.Pairs.{pair_bytes, pair_put, PairLaw, PairPlaces}
use Rattle.bits.proofs.Joins.{join_below, join_same}
use Rattle.bits.proofs.Numbers.{below, split}
use Rattle.bits.proofs.BytesOf.{length_bytes, are_bytes, bytes_back, bytes_forth, bytes_part, number_part}
use Rattle.bits.proofs.Rooms.{part_laid, laid_same, own_only}

module _ (o : Order) (x y : ℕ) where
  pub length_pair : length (pair_bytes o x y) ≡ 3
  unfolding pair_bytes
  length_pair = length_bytes o 3 (join o 12 x 12 y)

  pub pair_bytes_lem : Bytes (pair_bytes o x y)
  unfolding pair_bytes
  pair_bytes_lem = are_bytes o 3 (join o 12 x 12 y)

  -- the two numbers of a pair read back from its bytes
  pub pair_back : x < 4096 → y < 4096 → (twelve o (pair_bytes o x y) 0 ≡ x) × (twelve o (pair_bytes o x y) 1 ≡ y)
  unfolding pair_bytes
  pair_back h k =
      let b = bytes_of o 3 (join o 12 x 12 y) in
      join_same o 12 12 (number o b 0 12) (number o b 12 12) x y (below o b 0 12) (below o b 12 12) h k
      (sym (split o b 0 12 12) ∙ bytes_back o 3 (join o 12 x 12 y) (join_below o 12 12 x y h k))

  pub pair_forth : (b : List ℕ) → length b ≡ 3 → Bytes b → twelve o b 0 ≡ x → twelve o b 1 ≡ y → pair_bytes o x y ≡ b
  unfolding pair_bytes
  pair_forth b l h p q = rw (← p, ← q, ← split o b 0 12 12) (bytes_forth o b 3 l h)

-- the numbers of three bytes of a room
pub numbers : (o : Order) (b : List ℕ) (at k : ℕ) → k < 2 → at + 3 ≤ length b → twelve_in o (drop at b) k ≡ twelve o (take 3 (drop at b)) k
numbers o b at k l h =
    let e = length-drop at b in
    rw (le-leb (12 * k + 12) (8 * length (drop at b)) (omega arith)) (rw zero-add at (number_part o (drop at b) 0 3 (12 * k) 12 (omega arith)))

module _ (o : Order) (room : List ℕ) (at x y : ℕ) where
  -- written where neither is too wide
  pub narrow : x < 4096 → y < 4096 → laid (pair_bytes o x y) room at ≡ pair_put o room at x y
  unfolding pair_put
  narrow h k = rw (lt-ltb, lt-ltb)

  pub first_wide : 4096 ≤ x → room ≡ pair_put o room at x y
  unfolding pair_put
  first_wide h = rw le-ltb

  pub second_wide : 4096 ≤ y → room ≡ pair_put o room at x y
  unfolding pair_put
  second_wide h = cases (ltb x 4096) (λ t. rw (t, le-ltb)) (λ t. rw t)

  own : OwnOnly room (pair_put o room at x y) at 3
  unfolding pair_put
  own = own_only room at (ltb x 4096 && ltb y 4096) (pair_bytes o x y) 3 (length_pair o x y)

  stands : at + 3 ≤ length room → x < 4096 → y < 4096 → (k : ℕ) → k < 2 → twelve_in o (drop at (pair_put o room at x y)) k ≡ twelve o (pair_bytes o x y) k
  stands h p q k l =
      let s = pair_bytes o x y in
      rw (← narrow p q)
      (numbers o (laid s room at) at k l (omega (arith, length_laid s room at))
      ∙ ap (λ (b : List ℕ). twelve o b k) (part_laid room at s 3 (length_pair o x y) h))

forth : (o : Order) (room : List ℕ) (at : ℕ) → Bytes room → pair_put o room at (twelve_in o (drop at room) 0) (twelve_in o (drop at room) 1) ≡ room
forth o room at bytes = go (leb (at + 3) (length room)) refl
  where
    x : ℕ
    x = twelve_in o (drop at room) 0

    y : ℕ
    y = twelve_in o (drop at room) 1

    go : (t : Bool) → leb (at + 3) (length room) ≡ t → pair_put o room at x y ≡ room
    go true t =
        let h = leb-true (at + 3) (length room) t in
        let p = take 3 (drop at room) in
        let l : length p ≡ 3 = length-take-le 3 (drop at room) (simp length-drop (omega arith)) in
        let f = numbers o room at 0 (omega arith) h in
        let g = numbers o room at 1 (omega arith) h in
        let i : x < 4096 = rw f (below o p 0 12) in
        let j : y < 4096 = rw g (below o p 12 12) in
        sym (narrow o room at x y i j)
        ∙ ap (λ (s : List ℕ). laid s room at) (pair_forth o x y p l (bytes_part room at 3 bytes) (sym f) (sym g))
        ∙ laid_same room at 3 h
    go false t = (own o room at x y).outside (leb-false (at + 3) (length room) t)

pub too_wide : (o : Order) (room : List ℕ) (at x y : ℕ) → (4096 ≤ x) ⊎ (4096 ≤ y) → pair_put o room at x y ≡ room
too_wide o room at x y (inl h) = sym (first_wide o room at x y h)
too_wide o room at x y (inr h) = sym (second_wide o room at x y h)

pub law : PairLaw
law o room at x y = record {
  first = λ h p q. stands o room at x y h p q 0 (omega arith) ∙ (pair_back o x y p q).0;
  second = λ h p q. stands o room at x y h p q 1 (omega arith) ∙ (pair_back o x y p q).1;
  forth = forth o room at;
  own = own o room at x y;
  wide = too_wide o room at x y;
  only = pair_forth o x y;
}

pub places : PairPlaces
places o b j k = go (leb (12 * (2 * j + k) + 12) (8 * length b)) refl
  where
    r : List ℕ
    r = drop (3 * j) b

    go : (t : Bool) → leb (12 * (2 * j + k) + 12) (8 * length b) ≡ t → twelve_in o r k ≡ twelve_in o b (2 * j + k)
    go true t =
        let h = leb-true (12 * (2 * j + k) + 12) (8 * length b) t in
        let l : 12 * k + 12 ≤ 8 * length r = omega (arith, length-drop (3 * j) b) in
        let e : 12 * (2 * j + k) ≡ 8 * (3 * j) + 12 * k = omega arith in
        let f : number o (take (length r) r) (12 * k) 12 ≡ twelve o r k = ap (λ (x : List ℕ). twelve o x k) (take-length r) in
        rw (t, le-leb (12 * k + 12) (8 * length r) l, e) (sym (number_part o b (3 * j) (length r) (12 * k) 12 l ∙ f))
    go false t =
        let h = leb-false (12 * (2 * j + k) + 12) (8 * length b) t in
        rw (t, lt-leb (12 * k + 12) (8 * length r) (omega (arith, length-drop (3 * j) b)))

-- as the code computes it
module _ (room : List ℕ) (at x y : ℕ) (h : x < 4096) (k : y < 4096) where
  pub at_least : laid (bytes_of least 3 (y * 4096 + x)) room at ≡ pair_put least room at x y
  unfolding pair_bytes join
  at_least = narrow least room at x y h k

  pub at_most : laid (bytes_of most 3 (x * 4096 + y)) room at ≡ pair_put most room at x y
  unfolding pair_bytes join
  at_most = narrow most room at x y h k
