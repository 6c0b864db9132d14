-- Turns of loops that put a list into another, one by one or by blocks, for any element type.
-- Assumes nothing.
use mathlib.Core.Path.{◌≡◌, sym, ap, ◌∙◌}
use mathlib.Core.List.{List, append_assoc}
use Prim.Native.Nat.{ℕ, ◌+◌, ◌<◌, ◌≤◌}
use native.Mathlib.Nat.{zero-add}
use native.Mathlib.Numerals.{add-one}
use native.Mathlib.Omega.{arith}
use lib.ListN.{length, get_or, set, take, drop}
use lib.Seq.{paste, paste-suc, take-length, take-add, length-take-le}
use Rattle.buffers.specs.Laying.{patch}
use Rattle.buffers.proofs.Patches.{patch_then}

module _ {ℓ} {A : Type ℓ} where
  -- a turn of putting, and all put
  pub put_more : (d : List A) (at : ℕ) (s : List A) (k : ℕ) (z : A) → at + k < length d → k < length s
      → set (paste d at s k) (at + k) (get_or s k z) ≡ paste d at s (k + 1)
  put_more d at s k z h l = rw (add-one k) (paste-suc d at s k z h l)

  pub read_more : (d s : List A) (k : ℕ) (z : A) → k < length d → k < length s → set (paste d 0 s k) k (get_or s k z) ≡ paste d 0 s (k + 1)
  read_more d s k z h l = ap (λ (i : ℕ). set (paste d 0 s k) i (get_or s k z)) (sym (zero-add k)) ∙ put_more d 0 s k z (omega arith) l

  put_first : (d : List A) (at : ℕ) (s : List A) (k : ℕ) → k ≤ length s → paste d at s k ≡ patch d at (take k s)
  unfolding patch
  put_first d at s k h = rw (length-take-le k s h) (append_assoc (take at d) (take k s) (drop (at + k) d))

  pub put_all : (d : List A) (at : ℕ) (s : List A) (n : ℕ) → n ≡ length s → paste d at s n ≡ patch d at s
  put_all d at s n e = put_first d at s n (omega arith) ∙ rw (e, take-length s)

  -- a block more is put
  pub put_block_more : (d : List A) (at : ℕ) (s : List A) (k n : ℕ) → k + n ≤ length s → at + length s ≤ length d
      → patch (paste d at s k) (at + k) (take n (drop k s)) ≡ paste d at s (k + n)
  put_block_more d at s k n h l =
      let t = take n (drop k s) in
      let m = length-take-le k s (omega arith) in
      ap (λ (x : List A). patch x (at + k) t) (put_first d at s k (omega arith))
      ∙ ap (λ (i : ℕ). patch (patch d at (take k s)) (at + i) t) (sym m)
      ∙ patch_then d at (take k s) t (omega (arith, m))
      ∙ ap (patch d at) (sym (take-add k n s))
      ∙ sym (put_first d at s (k + n) h)
