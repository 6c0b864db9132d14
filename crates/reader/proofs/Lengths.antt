-- What a step's buffers are known to be.
-- Assumes nothing.
use mathlib.Core.Path.{◌≡◌, refl, ◌∙◌}
use mathlib.Core.Bool.{Bool, true, false}
use mathlib.Core.List.{List}
use Prim.Native.Nat.{ℕ, ◌+◌, ◌≤◌}
use native.Mathlib.Omega.{arith}
use lib.ListN.{length, length-replicate}
use borrow.Author.Tests.{eqb-true}
use Rattle.prelude.proofs.Conds.{two}
use Rattle.buffers.proofs.Patches.{length_patch}
use Rattle.bursts.specs.Bursts.{snapshot_size}
use Rattle.cells.specs.Laying.{cells_size}
use Rattle.major.specs.Major.{major_samples}
use Rattle.snapshot.specs.declared.PacketWork.{PacketWork}
use Rattle.reader.specs.Buffers.{Buffers, sized_by, sized, cleared_by, packet_laid_by, packet_after}

pub length_cleared {ℓ} : {A : Type ℓ} (t : Bool) (z : A) (d : List A) → length (cleared_by t z d) ≡ length d
length_cleared true z d = length-replicate (length d) z
length_cleared false z d = refl

pub record Sizes (b : Buffers) : Type 0 where
  pub cells : length b.open_cells ≡ cells_size
  pub finished_cells_lem : length b.finished_cells ≡ cells_size
  pub samples : length b.open_samples ≡ major_samples
  pub finished_samples_lem : length b.finished_samples ≡ major_samples
  pub snapshot : length b.open_snapshot ≡ snapshot_size
  pub first_snapshot_lem : length b.first_snapshot ≡ snapshot_size
  pub second_snapshot_lem : length b.second_snapshot ≡ snapshot_size

pub sizes : (b : Buffers) → sized b ≡ true → Sizes b
unfolding sized_by
sizes b e =
    let p = two _ _ e in
    let q = two _ _ p.0 in
    let r = two _ _ q.1 in
    let s = two _ _ r.1 in
    let t = two _ _ p.1 in
    let u = two _ _ t.1 in
    record {
      cells = eqb-true _ _ q.0;
      finished_cells_lem = eqb-true _ _ r.0;
      samples = eqb-true _ _ s.0;
      finished_samples_lem = eqb-true _ _ s.1;
      snapshot = eqb-true _ _ t.0;
      first_snapshot_lem = eqb-true _ _ u.0;
      second_snapshot_lem = eqb-true _ _ u.1;
    }

pub is_sized : (b : Buffers) → Sizes b → sized b ≡ true
unfolding sized_by
is_sized b z = cc

-- a buffer after a burst packet's work is as long as before
pub packet_length : (w : PacketWork) (s c : List ℕ) → (w.work.lays ≡ true → w.at + length s ≤ length c) → length (packet_after w s c) ≡ length c
packet_length w s c room = go w.work.lays room
  where
    d : List ℕ
    d = cleared_by w.work.clears 0 c

    kept : length d ≡ length c
    kept = length_cleared w.work.clears 0 c

    go : (l : Bool) → (l ≡ true → w.at + length s ≤ length c) → length (packet_laid_by l s w.at d) ≡ length c
    go true h = length_patch d w.at s (omega (arith, h refl, kept)) ∙ kept
    go false h = kept
