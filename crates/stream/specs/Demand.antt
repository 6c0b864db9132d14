-- Demand 3, by the parts that the kept records are cut into.
-- Assumes nothing.
use Rattle.std.specs.Prelude.{◌≡◌, List, ℕ, ◌*◌, length}
use Rattle.prelude.specs.Every.{Every}
use Rattle.mag.specs.Samples.{samples_size}
use Rattle.bursts.specs.Bursts.{burst_size}
use Rattle.carriage.specs.Carriage.{science_size}
use Rattle.listing.specs.Lines.{cells_held, slots_held, samples_held, snap_cells_held}
use Rattle.state.specs.Keeping.{Sound}
use Rattle.gathering.specs.Lists.{Pairwise, flat, sum}
use Rattle.stream.specs.Running.{Trace, accumulations, majors, snapshots, states}
use Rattle.stream.specs.Sending.{Fate, KeptAccepted, Kept, unspoiled, real_unspoiled, mag_unspoiled}
use Rattle.stream.specs.Cutting.{AccumulationCut, MajorCut}
use Rattle.stream.specs.Filling.{Filled, MajorFilled}
use Rattle.stream.specs.Bursts.{Packet, snap_packets, SnapshotCut}
use Rattle.stream.specs.Snapshots.{SnapshotFilled}

-- the cells of the listing's accum lines, and of its major lines the cells and the frames
abbrev pub cells_listed : Trace → ℕ
cells_listed t = sum (λ a. cells_held a.report) (accumulations t)

abbrev pub samples_listed : Trace → ℕ
samples_listed t = sum (λ m. samples_held m.frame) (majors t)

abbrev pub slots_listed : Trace → ℕ
slots_listed t = sum (λ m. slots_held m.frame) (majors t)

-- of the listing's snap lines the cells
abbrev pub snaps_listed : Trace → ℕ
snaps_listed t = sum (λ s. snap_cells_held s.report) (snapshots t)

-- of fates, from count c and real-time number k on, and the trace of what was fed (proved as `demand_3` in proofs/Demand.antt)
pub record Demand3 (c k : ℕ) (xs : List Fate) (t : Trace) : Type 0 where
  -- every kept record is accepted
  pub accepted : KeptAccepted xs t
  -- the accumulations handed out are the kept real-time records, in order, each once, cut as `AccumulationCut` says; each
  -- holds the bytes of its own records in their places, and 0 in all others
  pub parts : List (List Kept)
  pub parts_whole : flat parts ≡ real_unspoiled c k xs
  pub parts_cut : AccumulationCut parts
  pub parts_out : Pairwise Filled parts (accumulations t)
  -- the major frames handed out are the kept records, cut into parts and filled by them
  pub major_parts : List (List Kept)
  pub major_whole : flat major_parts ≡ unspoiled c k xs
  pub major_cut : MajorCut major_parts
  pub major_out_lem : Pairwise MajorFilled major_parts (majors t)
  -- the snapshots handed out are the kept records' packets of types 36 to 55, cut into parts and filled by them
  pub snapshot_parts : List (List Packet)
  pub snapshot_whole : flat snapshot_parts ≡ snap_packets (unspoiled c k xs)
  pub snapshot_cut : SnapshotCut (unspoiled c k xs) snapshot_parts
  pub snapshot_out_lem : Pairwise SnapshotFilled snapshot_parts (snapshots t)
  -- the listing's numbers sum to 83 times the real-time frames left, 54 times those with MAG, the records left, and 82 times the packets
  -- of types 36 to 55 in them
  pub cells_sum : cells_listed t ≡ science_size * length (real_unspoiled c k xs)
  pub samples_sum : samples_listed t ≡ samples_size * length (mag_unspoiled c k xs)
  pub slots_sum : slots_listed t ≡ length (unspoiled c k xs)
  pub snaps_sum : snaps_listed t ≡ burst_size * length (snap_packets (unspoiled c k xs))
  -- "The state list" is kept throughout
  pub states_sound : Every Sound (states t)
