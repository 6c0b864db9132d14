-- Tables of places in buffers: one value for each key, and a block of values for each key, one block behind the other.
-- Assumes nothing.
use mathlib.Core.Path.{◌≡◌, sym, ◌∙◌}
use mathlib.Core.List.{List}
use Prim.Native.Nat.{ℕ, suc, ◌+◌, ◌*◌, ◌<◌, ◌≤◌}
use native.Mathlib.Nat.{mul-le-mul_left}
use native.Mathlib.Omega.{arith}
use lib.Dec.{ltb}
use lib.ListN.{length, get_or, set, length-set}
use lib.Seq.{get_or-set_same, get_or-set_other}
use borrow.Author.Tests.{ltb-true, ltb-false}
use Rattle.prelude.proofs.Conds.{cases}
use Rattle.buffers.specs.Laying.{patch}
use Rattle.buffers.proofs.Patches.{length_patch, patch_left, patch_in, patch_right}
use Rattle.gathering.specs.Laying.{Table}

-- value z where there is none
module _ {I A : Type 0} (key : I → ℕ) (n : ℕ) (z : A) where
  pub singles : (value : I → A)
      → Table key (λ x b. set b (key x) (value x)) (λ b u. get_or b u z) value (λ x. key x < n) (λ u. u < n) (λ low b. length b ≡ n)
  singles value = record {
    keyed = λ x g. g;
    fits = λ x b low g l f. length-set b (key x) (value x) ∙ f;
    own = λ x b low g l f. get_or-set_same b (key x) (value x) z (omega arith);
    other = λ x b low u g l f k d. get_or-set_other b (key x) u (value x) z (λ e. d (sym e));
  }

  -- blocks of this size
  module _ (size : ℕ) (block : I → List A) where
    pub record Block (x : I) : Type 0 where
      pub below : key x < n
      pub sized : length (block x) ≡ size

    before : (u v : ℕ) → u < v → size * u + size ≤ size * v
    before u v h = omega (arith, mul-le-mul_left {m = suc u} {n = v} size (omega arith))

    module _ (x : I) (b : List A) (g : Block x) (f : length b ≡ size * n) where
      inside : size * key x + length (block x) ≤ length b
      inside = omega (arith, before (key x) n g.below)

      block_other : (u k : ℕ) → k < size → (key x ≡ u → ⊥) → get_or (patch b (size * key x) (block x)) (size * u + k) z ≡ get_or b (size * u + k) z
      block_other u k h d =
          cases (ltb u (key x))
          (λ e.
          let m = before u (key x) (ltb-true u (key x) e) in
          patch_left b (size * key x) (block x) inside (size * u + k) z (omega arith))
          (λ e.
          let m = before (key x) u (omega (arith, ltb-false u (key x) e)) in
          patch_right b (size * key x) (block x) inside (size * u + k) z (omega arith))

    -- value k of each block
    pub blocks : (k : ℕ) → k < size → Table key (λ x b. patch b (size * key x) (block x)) (λ b u. get_or b (size * u + k) z) (λ x. get_or (block x) k z)
        Block (λ u. u < n) (λ low b. length b ≡ size * n)
    blocks k h = record {
      keyed = λ x g. g.below;
      fits = λ x b low g l f. length_patch b (size * key x) (block x) (inside x b g f) ∙ f;
      own = λ x b low g l f. patch_in b (size * key x) (block x) (inside x b g f) k z (omega arith);
      other = λ x b low u g l f j d. block_other x b g f u k h d;
    }
