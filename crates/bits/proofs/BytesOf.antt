-- The n bytes of a number and the number in n bytes undo each other, over the order and the width.
-- Assumes nothing.
use mathlib.Core.List.{List}
use mathlib.Core.Path.{◌≡◌, sym, ap, ◌∙◌}
use Prim.Native.Nat.{ℕ, zero, suc, ◌+◌, ◌-◌, ◌*◌, ◌/◌, ◌%◌, ◌^◌, ◌<◌, ◌≤◌}
use native.Mathlib.Nat.{zero-add, div-eq_of_lt, mod-eq_of_lt}
use native.Mathlib.Omega.{arith}
use lib.Dec.{ltb}
use lib.ListN.{length, get_or, take, drop, length-take, get_or-eq_default}
use lib.Pow as pow
use lib.Seq.{ext_get_or, get_or-take, get_or-drop}
use borrow.Author.Tests.{ltb-true, ltb-false}
use Rattle.prelude.proofs.Conds.{cases}
use Rattle.prelude.proofs.Built.{length_build, get_d_build}
use Rattle.bits.specs.Numbers.{Order, least, most, bit, join, number}
use Rattle.bits.specs.Twelve.{Bytes}
use Rattle.bits.specs.Putting.{rank_of, bytes_of}
use Rattle.bits.proofs.Numbers.{below, own, same_byte, one_more}

module _ (o : Order) (n x : ℕ) where
  abbrev byte_at : ℕ → ℕ
  byte_at k = x / 2 ^ (8 * rank_of o n k) % 256

  pub length_bytes : length (bytes_of o n x) ≡ n
  unfolding bytes_of
  length_bytes = length_build byte_at n

  pub byte_at_lem : (k : ℕ) → k < n → get_or (bytes_of o n x) k 0 ≡ byte_at k
  unfolding bytes_of
  byte_at_lem k h = get_d_build byte_at n k 0 h

  pub are_bytes : Bytes (bytes_of o n x)
  are_bytes i =
      cases (ltb i n)
      (λ t. rw (byte_at_lem i (ltb-true i n t)) (omega arith))
      (λ t. rw (get_or-eq_default (bytes_of o n x) 0 {n = i} (omega (arith, length_bytes, ltb-false i n t))) (omega arith))

-- the number in the first i of the n bytes of x: what remains of x above the others, or below them
abbrev part : Order → ℕ → ℕ → ℕ → ℕ
part least n x i = x % 2 ^ (8 * i)
part most n x i = x / 2 ^ (8 * (n - i))

part_none : (o : Order) (n x : ℕ) → x < 2 ^ (8 * n) → 0 ≡ part o n x 0
part_none least n x h = omega arith
part_none most n x h = let e : 8 * (n - 0) ≡ 8 * n = omega arith in rw e (sym (div-eq_of_lt h))

part_more : (o : Order) (n x i : ℕ) → i < n → join o (8 * i) (part o n x i) 8 (x / 2 ^ (8 * rank_of o n i) % 256) ≡ part o n x (suc i)
unfolding join
part_more least n x i h = let e : 8 * suc i ≡ 8 + 8 * i = omega arith in rw e (sym (pow.mod-pow-add x 8 (8 * i)))
part_more most n x i h =
    let s = 8 * (n - suc i) in
    let e : 8 * (n - i) ≡ s + 8 = omega arith in
    rw (e, ← pow.shr-shr) (pow.split (x / 2 ^ s) 8)

part_all : (o : Order) (n x : ℕ) → x < 2 ^ (8 * n) → part o n x n ≡ x
part_all least n x h = mod-eq_of_lt h
part_all most n x h = let e : 8 * (n - n) ≡ 0 = omega arith in rw e (omega arith)

firsts : (o : Order) (n x : ℕ) → x < 2 ^ (8 * n) → (i : ℕ) → i ≤ n → number o (bytes_of o n x) 0 (8 * i) ≡ part o n x i
unfolding number
firsts o n x h zero l = part_none o n x h
firsts o n x h (suc i) l =
    let e : 8 * suc i ≡ 8 * i + 8 = omega arith in
    let b = bytes_of o n x in
    let k : get_or b (0 + i) 0 ≡ x / 2 ^ (8 * rank_of o n i) % 256 = rw (zero-add i) (byte_at_lem o n x i (omega arith)) in
    ap (number o b 0) e ∙ one_more o b 0 i (are_bytes o n x (0 + i)) ∙ rw (k, firsts o n x h i (omega arith)) (part_more o n x i (omega arith))

-- what is written reads back
pub bytes_back : (o : Order) (n x : ℕ) → x < 2 ^ (8 * n) → number o (bytes_of o n x) 0 (8 * n) ≡ x
bytes_back o n x h = firsts o n x h n (omega arith) ∙ part_all o n x h

-- the number determines its bytes
pub same_bytes : (o : Order) (b b' : List ℕ) (n : ℕ) → length b ≡ n → length b' ≡ n → Bytes b → Bytes b'
    → number o b 0 (8 * n) ≡ number o b' 0 (8 * n) → b ≡ b'
same_bytes o b b' n l l' h h' e =
    ext_get_or 0 b b' (l ∙ sym l') (λ j k. rw zero-add at (same_byte o b b' 0 n e j (omega arith) (h (0 + j)) (h' (0 + j))))

-- what was read is written the same
pub bytes_forth : (o : Order) (b : List ℕ) (n : ℕ) → length b ≡ n → Bytes b → bytes_of o n (number o b 0 (8 * n)) ≡ b
bytes_forth o b n l h =
    let x = number o b 0 (8 * n) in
    same_bytes o (bytes_of o n x) b n (length_bytes o n x) l (are_bytes o n x) h (bytes_back o n x (below o b 0 (8 * n)))

-- a part of bytes
pub bytes_part : (b : List ℕ) (at n : ℕ) → Bytes b → Bytes (take n (drop at b))
bytes_part b at n h i =
    cases (ltb i n)
    (λ t. rw (get_or-take n (drop at b) i 0 (ltb-true i n t), get_or-drop) (h (at + i)))
    (λ t. let l = ltb-false i n t in rw (get_or-eq_default (take n (drop at b)) 0 {n = i} (simp length-take (omega arith))) (omega arith))

-- a bit, and a number, that lies in n bytes from place `at` on depends on these only
bit_part : (o : Order) (b : List ℕ) (at n i j : ℕ) → i + j < 8 * n → bit o b (8 * at + i + j) ≡ bit o (take n (drop at b)) (i + j)
unfolding bit
bit_part o b at n i j h =
    let q : (8 * at + i + j) / 8 ≡ at + (i + j) / 8 = omega arith in
    let r : (8 * at + i + j) % 8 ≡ (i + j) % 8 = omega arith in
    rw (q, r, get_or-take n (drop at b) ((i + j) / 8) 0 (omega arith), get_or-drop)

pub number_part : (o : Order) (b : List ℕ) (at n i m : ℕ) → i + m ≤ 8 * n → number o b (8 * at + i) m ≡ number o (take n (drop at b)) i m
number_part o b at n i m h = own o b (take n (drop at b)) (8 * at + i) i m (λ j k. bit_part o b at n i j (omega arith))
