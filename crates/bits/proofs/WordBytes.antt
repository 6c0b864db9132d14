-- A word of n bytes, most significant first, over its width.
-- Assumes nothing.
use mathlib.Core.Bool.{Bool, true, false, cond}
use mathlib.Core.Path.{◌≡◌, refl, sym, ◌∙◌}
use mathlib.Core.List.{List}
use Prim.Native.Nat.{ℕ, ◌+◌, ◌-◌, ◌*◌, ◌^◌, ◌<◌, ◌≤◌}
use native.Mathlib.Nat.{lt_of_lt_of_le}
use native.Mathlib.Omega.{arith}
use lib.Dec.{leb}
use lib.ListN.{length, get_or, take, drop, length-drop}
use lib.Seq.{get_or-take, get_or-drop, length-take-le}
use lib.Pow.{pow_mono, pow_pos}
use borrow.Author.Tests.{le-leb}
use Rattle.bits.specs.Numbers.{most, join, number, word_in}
use Rattle.bits.proofs.Numbers.{below, one_more}

-- the first i bytes of a word, as a number
abbrev pub first : List ℕ → ℕ → ℕ → ℕ
first b at i = number most b (8 * at) (8 * i)

pub none : (b : List ℕ) (at : ℕ) → 0 ≡ first b at 0
unfolding number
none b at = refl

-- a turn of the loop
pub more : (b : List ℕ) (at i : ℕ) → get_or b (at + i) 0 < 256 → first b at i * 256 + get_or b (at + i) 0 ≡ first b at (i + 1)
unfolding join
more b at i h = let e : 8 * (i + 1) ≡ 8 * i + 8 = omega arith in rw e (sym (one_more most b at i h))

-- i bytes are below 2 ^ (8 k), where i is at most k
pub small : (b : List ℕ) (at i k : ℕ) → i ≤ k → first b at i < 2 ^ (8 * k)
small b at i k h = lt_of_lt_of_le (below most b (8 * at) (8 * i)) (pow_mono (omega arith))

pub small_word : (b : List ℕ) (at n : ℕ) → word_in b at n < 2 ^ (8 * n)
small_word b at n = go (leb (8 * at + 8 * n) (8 * length b))
  where
    go : (t : Bool) → cond t (first b at n) 0 < 2 ^ (8 * n)
    go true = below most b (8 * at) (8 * n)
    go false = pow_pos (8 * n)

pub inside : (b : List ℕ) (at n : ℕ) → at + n ≤ length b → first b at n ≡ word_in b at n
inside b at n h = rw (le-leb (8 * at + 8 * n) (8 * length b) (omega arith))

-- byte i of the part of b that is the word
module _ (b : List ℕ) (at n i : ℕ) (h : at + n ≤ length b) (k : i < length (take (at + n - at) (drop at b))) where
  pub place : i < n
  place = let l = length-take-le (at + n - at) (drop at b) (omega (arith, length-drop at b)) in omega (arith, l)

  pub byte : get_or (take (at + n - at) (drop at b)) i 0 ≡ get_or b (at + i) 0
  byte = get_or-take (at + n - at) (drop at b) i 0 (omega (arith, place)) ∙ get_or-drop at b i 0
