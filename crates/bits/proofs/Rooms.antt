-- Bytes written into a room, whatever they are: what is read of it afterwards, and what stays.
-- Assumes nothing.
use mathlib.Core.Bool.{Bool, true, false, cond}
use mathlib.Core.List.{List, ◌++◌}
use mathlib.Core.Path.{◌≡◌, refl, sym, ap, ◌∙◌}
use Prim.Native.Nat.{ℕ, ◌+◌, ◌≤◌}
use native.Mathlib.Omega.{arith}
use lib.Dec.{leb}
use lib.ListN.{length, take, drop, take-append-drop, length-drop}
use lib.Seq.{take_at, drop_at, drop-drop, length-take-le}
use borrow.Author.Tests.{leb-true}
use Rattle.buffers.specs.Laying.{patch, laid}
use Rattle.buffers.proofs.Patches.{laid_in, length_patch, patch_left, patch_right}
use Rattle.bits.specs.Putting.{OwnOnly}

module _ (room : List ℕ) (at : ℕ) where
  -- what was written stands there
  pub part_laid : (s : List ℕ) (n : ℕ) → length s ≡ n → at + n ≤ length room → take n (drop at (laid s room at)) ≡ s
  unfolding patch
  part_laid s n l h =
      let k : at + length s ≤ length room = omega arith in
      let f = length-take-le at room (omega arith) in
      rw (laid_in, drop_at (take at room) (s ++ drop (at + length s) room) at f) (take_at s (drop (at + length s) room) n l)

  -- what stood there, written again
  pub laid_same : (n : ℕ) → at + n ≤ length room → laid (take n (drop at room)) room at ≡ room
  unfolding patch
  laid_same n h =
      let s = take n (drop at room) in
      let l = length-take-le n (drop at room) (simp length-drop (omega arith)) in
      laid_in s room at (omega arith)
      ∙ ap (λ m. take at room ++ (s ++ drop (at + m) room)) l
      ∙ ap (λ y. take at room ++ (s ++ y)) (sym (drop-drop n at room))
      ∙ ap (λ y. take at room ++ y) (take-append-drop n (drop at room))
      ∙ take-append-drop at room

  -- only their own places change, whatever test they passed
  pub own_only : (t : Bool) (s : List ℕ) (n : ℕ) → length s ≡ n → OwnOnly room (cond t (laid s room at) room) at n
  own_only t s n l = go t (leb (at + length s) (length room)) refl
    where
      go : (t u : Bool) → leb (at + length s) (length room) ≡ u → OwnOnly room (cond t (cond u (patch room at s) room) room) at n
      go false u e = record { size = refl; left = λ p h. refl; right = λ p h. refl; outside = λ h. refl }
      go true false e = record { size = refl; left = λ p h. refl; right = λ p h. refl; outside = λ h. refl }
      go true true e =
          let k = leb-true (at + length s) (length room) e in record {
            size = length_patch room at s k;
            left = λ p h. patch_left room at s k p 0 h;
            right = λ p h. patch_right room at s k p 0 (omega arith);
            outside = λ h. absurd (omega arith);
          }
