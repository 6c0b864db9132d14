-- Which records stand together in what is handed out (demand 3).
-- Assumes nothing.
use Rattle.std.specs.Prelude.{◌≡◌, Bool, false, cond, ◌||◌, List, [], ◌∷◌, ℕ, ◌+◌, ◌-◌, ◌/◌, ◌<◌, ◌≤◌, eqb}
use Rattle.record.specs.Contents.{record_of}
use Rattle.carriage.specs.Carriage.{types}
use Rattle.accumulation.specs.Accumulation.{most}
use Rattle.major.specs.Major.{major_number}
use Rattle.gathering.specs.Lists.{Cut, total}
use Rattle.stream.specs.Sending.{Kept}

abbrev pub at : Kept → ℕ
at f = f.count

abbrev pub type_of : Kept → ℕ
type_of f = (record_of f.bytes).frame_type

-- the sent accumulation that a real-time record belongs to: types 0 to 35 once
abbrev pub round : Kept → ℕ
round f = f.serial / types

-- how many of those sent between p and f, kept later, were lost: lost ones only grow
abbrev pub lost_between : Kept → Kept → ℕ
lost_between p f = f.lost - p.lost

-- one of the kept records ks has the count n
unfoldable pub has_count : List Kept → ℕ → Bool
has_count [] n = false
has_count (x ∷ ks) n = eqb n (at x) || has_count ks n

-- "the counts strictly between c and d that were not accepted" (01, "Joining accumulations"): in demand 3 every kept record is
-- accepted, and nothing else is. Between neighbouring real-time records they are the lost ones (`real_lost` in proofs/Lost.antt)
abbrev pub unaccepted : List Kept → ℕ → ℕ → ℕ
unaccepted ks c d = total (λ i. cond (has_count ks (c + 1 + i)) 0 1) (d - (c + 1))

-- neighbouring real-time records in one accumulation that is handed out: of one round, types rising, no more lost between them
-- than the joining rule allows
pub record Joined (p f : Kept) : Type 0 where
  pub same : round f ≡ round p
  pub rising : type_of p < type_of f
  pub near : lost_between p f ≤ most (type_of p) (type_of f)

-- two neighbours in two accumulations: of two rounds, or of one that is torn here, with more lost between them than the joining rule allows
abbrev pub Parted : Kept → Kept → Type 0
Parted p f = round p ≡ round f → most (type_of p) (type_of f) < lost_between p f

-- a sent accumulation is torn only where "36 or more counts weren't accepted" (`torn_where` in proofs/OwnCells.antt)
abbrev pub tears : ℕ
tears = 36

abbrev pub AccumulationCut : List (List Kept) → Type 0
AccumulationCut gs = Cut Joined Parted gs

abbrev pub major : Kept → ℕ
major f = major_number (at f)

-- neighbouring records of one major frame, and of two
abbrev pub Beside : Kept → Kept → Type 0
Beside p f = (major f ≡ major p) × (at p < at f)

abbrev pub Behind : Kept → Kept → Type 0
Behind p f = major p < major f

abbrev pub MajorCut : List (List Kept) → Type 0
MajorCut gs = Cut Beside Behind gs
