-- Numbers summed over what is handed out are those of the records in it.
-- Assumes nothing.
use mathlib.Core.Path.{◌≡◌, refl, ◌∙◌}
use mathlib.Core.List.{List, [], ◌++◌}
use Prim.Native.Nat.{◌+◌, ◌*◌}
use native.Mathlib.Omega.{arith}
use lib.ListN.{length, length-append}
use Rattle.mag.specs.Samples.{samples_size}
use Rattle.bursts.specs.Bursts.{burst_size}
use Rattle.carriage.specs.Carriage.{science_size}
use Rattle.listing.specs.Lines.{cells_held, slots_held, samples_held, snap_cells_held}
use Rattle.gathering.specs.Lists.{Pairwise, flat, sum, those}
use Rattle.gathering.proofs.Those.{those_append}
use Rattle.gathering.proofs.Totals.{sum_is}
use Rattle.stream.specs.Running.{ClosedAccumulation, ClosedMajor, ClosedSnapshot}
use Rattle.stream.specs.Sending.{Kept, magged}
use Rattle.stream.specs.Filling.{Filled, MajorFilled}
use Rattle.stream.specs.Bursts.{Packet}
use Rattle.stream.specs.Snapshots.{SnapshotFilled}
use Rattle.stream.proofs.Counting.{cells_in, cells_held_lem}

mags_none : length (magged []) ≡ 0
unfolding those
mags_none = refl

mags_length : (g h : List Kept) → length (magged (g ++ h)) ≡ length (magged g) + length (magged h)
mags_length g h = rw (those_append, length-append)

-- the listing's numbers
module _ (gs : List (List Kept)) where
  pub cells_total : (os : List ClosedAccumulation) → Pairwise Filled gs os → sum (λ a. cells_held a.report) os ≡ science_size * length (flat gs)
  cells_total =
      sum_is Filled (λ a. cells_held a.report) (λ g. science_size * length g)
      refl (λ g h. omega (arith, length-append g h)) (λ g a f. rw f.frames) gs

  -- the sum of the cells filled
  pub filled_total : (os : List ClosedAccumulation) → Pairwise Filled gs os → sum (λ a. cells_in a.report.held) os ≡ science_size * length (flat gs)
  filled_total =
      sum_is Filled (λ a. cells_in a.report.held) (λ g. science_size * length g)
      refl (λ g h. omega (arith, length-append g h)) (λ g a f. cells_held_lem a.report.held f.among ∙ rw f.frames) gs

  module _ (os : List ClosedMajor) (h : Pairwise MajorFilled gs os) where
    pub samples_total : sum (λ m. samples_held m.frame) os ≡ samples_size * length (magged (flat gs))
    samples_total =
        sum_is MajorFilled (λ m. samples_held m.frame) (λ g. samples_size * length (magged g))
        (rw mags_none) (λ g h. omega (arith, mags_length g h)) (λ g m f. rw f.mags) gs os h

    pub slots_total : sum (λ m. slots_held m.frame) os ≡ length (flat gs)
    slots_total = sum_is MajorFilled (λ m. slots_held m.frame) length refl length-append (λ g m f. f.held) gs os h

pub snaps_total : (ps : List (List Packet)) (os : List ClosedSnapshot) → Pairwise SnapshotFilled ps os
    → sum (λ s. snap_cells_held s.report) os ≡ burst_size * length (flat ps)
snaps_total =
    sum_is SnapshotFilled (λ s. snap_cells_held s.report) (λ g. burst_size * length g)
    refl (λ g h. omega (arith, length-append g h)) (λ g s f. rw f.held)
