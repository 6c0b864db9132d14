-- No reader that keeps the promises of step and finish breaks demand 2 as 01's wrong readers do, and none that meets demand 3
-- breaks that as they do.
-- Assumes nothing.
use mathlib.Core.Path.{◌≡◌, refl, sym, ap, subst, subst⁻¹, ◌∙◌}
use mathlib.Core.Bool.{true, false, cond, and-false}
use mathlib.Core.List.{List, [], ◌∷◌}
use mathlib.Core.Logic.{⊎_elim}
use Prim.Native.Nat.{ℕ, ◌*◌, ◌<◌, ◌≤◌}
use native.Mathlib.Omega.{arith}
use Rattle.std.specs.Prelude.{Option, Some, None, Result}
use lib.Dec.{eqb, eqb→eq}
use lib.ListN.{length, get_or, get_or-replicate}
use Rattle.prelude.specs.Upto.{both}
use Rattle.prelude.specs.Every.{Every}
use Rattle.prelude.proofs.Upto.{upto_at}
use Rattle.prelude.proofs.Every.{every_joined}
use Rattle.record.specs.Layout.{science_bytes}
use Rattle.record.specs.Contents.{record_of}
use Rattle.record.specs.Rules.{refused_number}
use Rattle.record.specs.declared.refusal.Refusal.{Refusal}
use Rattle.carriage.specs.Carriage.{cells, byte_of}
use Rattle.carriage.proofs.EachCell.{once}
use Rattle.cells.specs.Raw.{holds_cell}
use Rattle.cells.specs.Laying.{cells_size}
use Rattle.listing.specs.Lines.{frames_held, cells_held}
use Rattle.accumulation.specs.Accumulation.{joins, started}
use Rattle.clock.proofs.Laws.{Follows, follows_none, follows_last}
use Rattle.state.specs.Deciding.{number_of}
use Rattle.state.specs.Soundness.{fresh}
use Rattle.accumulation.specs.declared.AccumulationReport.{AccumulationReport}
use Rattle.accumulation.specs.declared.GapDecision.TheVariants.{Joins}
use Rattle.state.specs.declared.deciding.Taken.{Taken}
use Rattle.state.specs.declared.State.{State}
use Rattle.state.proofs.Told.{all_pass, passed_size}
use Rattle.reader.specs.Buffers.{Buffers}
use Rattle.reader.specs.Steps.{input}
use Rattle.gathering.specs.Lists.{Pairwise, sum, those}
use Rattle.gathering.proofs.Totals.{total_none}
use Rattle.stream.specs.Running.{Reader, Call, Trace, trace_of, called, ClosedAccumulation, handed_accumulation, accumulations}
use Rattle.stream.specs.Sending.{Fate, kept, Sends, fed, ExtraRefused, KeptAccepted, Kept, kept_of, reals}
use Rattle.stream.specs.Sending.{unspoiled, real_unspoiled, WithinTurns, Stream}
use Rattle.stream.specs.Cutting.{at, type_of, Joined, Parted}
use Rattle.stream.specs.Filling.{Filled, packet}
use Rattle.stream.specs.Demand.{cells_listed}
use Rattle.stream.specs.Once.{cells_filled, is_filled, has_byte}
use Rattle.stream.specs.Law.{Keeps, Meets}
use Rattle.stream.specs.Readers.{RefusesAll, FixedAnswer, StoresNothing, Nods, NeverSaysJoins, NeverJoins, MadeUp, FixedFrames}
use Rattle.stream.proofs.Filled.{filled_in}
use Rattle.stream.proofs.Runs.{answered, only_call}
use Rattle.stream.proofs.Calls.{opening, joining}
use Rattle.stream.proofs.Parts.{Ready, Stood, stands_at, accepts, clock_after, moves, start}
use Rattle.stream.proofs.Pairs.{Split, Whole, of_two, of_one, near_one, near_two}
use Rattle.stream.proofs.Made.{lent, lent_sized, made, Right, five, six, real_five, real_six, sent_five, sent_six}

-- type 5 at count 100 to the fresh reader, then type 6 at count 101
first : Kept
first = record { bytes = made 100 5; count = 100; serial = 5; lost = 0 }

second : Kept
second = record { bytes = made 101 6; count = 101; serial = 6; lost = 0 }

is_five : Right 100 5
is_five = five 100

is_six : Right 101 6
is_six = six 101

first_stands : Stood fresh 100 (made 100 5)
first_stands = stands_at fresh 100 (follows_none 100 (omega arith)) (made 100 5) is_five.counted

ready : Ready fresh lent
ready = start lent lent_sized

first_passes : number_of (input fresh lent (made 100 5)) ≡ 0
first_passes = accepts fresh lent 100 (made 100 5) ready first_stands is_five.passes

abbrev now : Call
now = called fresh lent (made 100 5)

first_opens : now.result.state.accumulation ≡ started (type_of first) (at first)
unfolding joins first
first_opens = opening fresh lent first first_passes first_stands.count (real_five 100) refl

second_stands : Stood now.result.state 101 (made 101 6)
second_stands =
    let e = clock_after fresh lent 100 (made 100 5) ready first_stands first_passes in
    let f = subst⁻¹ (λ y. Follows y 101) e (follows_last 100 101 (omega arith) (omega arith) (omega arith)) in
    stands_at now.result.state 101 f (made 101 6) is_six.counted

second_passes : number_of (input now.result.state now.left (made 101 6)) ≡ 0
second_passes = accepts now.result.state now.left 101 (made 101 6) (moves fresh lent (made 100 5) ready) second_stands is_six.passes

second_joins : joins now.result.state.accumulation (type_of second) (at second) ≡ true
unfolding joins first second
second_joins = rw (first_opens, is_five.typed, is_six.typed)

module _ (R : Reader) (keeps : Keeps R) where
  is_call : (s : State) (b : Buffers) (r : List ℕ) → R.steps s b r ≡ called s b r
  is_call s b r = only_call s b r (R.steps s b r) (keeps.steps s b r)

  -- the reader's answer to a first record
  number_is : (r : List ℕ) → refused_number (R.steps fresh lent r).result.answer ≡ number_of (input fresh lent r)
  unfolding called
  number_is r = ap (λ x. refused_number x.result.answer) (is_call fresh lent r) ∙ answered (input fresh lent r)

  -- "A reader that refuses everything, and one with a fixed answer, break demand 2's "exactly when""
  accepted_once : refused_number (R.steps fresh lent (made 100 5)).result.answer ≡ 0
  accepted_once = number_is (made 100 5) ∙ first_passes

  pub not_refusing : RefusesAll R → ⊥
  not_refusing h = omega (arith, h fresh lent (made 100 5), accepted_once)

  pub not_fixed : (x : Result Taken Refusal) → FixedAnswer R x → ⊥
  not_fixed x h =
      let e = ap refused_number (h fresh lent [] ∙ sym (h fresh lent (made 100 5))) ∙ accepted_once in
      let n : number_of (input fresh lent []) ≡ 0 = sym (number_is []) ∙ e in
      let l : length {A = ℕ} [] ≡ 472 = passed_size (input fresh lent []) (all_pass (input fresh lent []) n) in
      omega arith

  -- "One that never joins keeps bytes unmixed but breaks the joining rule in 2"
  pub says_joins : NeverSaysJoins R → ⊥
  unfolding second
  says_joins h =
      let s = now.result.state in
      let b = now.left in
      let j = joining s b second second_passes second_stands.count (real_six 101) second_joins in
      h s b (made 101 6) (record { fields = record_of (made 101 6); gap = Joins })
      (ap (λ (x : Call). x.result.answer) (is_call s b (made 101 6)) ∙ j) refl

-- the stream of the first record alone, and that of both
one : List Fate
one = kept (made 100 5) ∷ []

pair : List Fate
pair = kept (made 100 5) ∷ kept (made 101 6) ∷ []

left_one : unspoiled 100 5 one ≡ first ∷ []
unfolding one unspoiled kept_of first
left_one = refl

left_both : unspoiled 100 5 pair ≡ first ∷ second ∷ []
unfolding pair unspoiled kept_of first second
left_both = rw (real_five 100)

real_one : real_unspoiled 100 5 one ≡ first ∷ []
unfolding those first
real_one = ap reals left_one ∙ rw (real_five 100)

real_both : real_unspoiled 100 5 pair ≡ first ∷ second ∷ []
unfolding those first second
real_both = ap reals left_both ∙ rw (real_five 100, real_six 101)

-- what is handed out by one that stores nothing
out_lent : (r : Option AccumulationReport) (c d : List ℕ) → c ≡ d → Every (λ a. a.cells ≡ d) (handed_accumulation r c)
unfolding Every
out_lent None c d e = tt
out_lent (Some r) c d e = (e, tt)

all_lent : (R : Reader) → StoresNothing R → (rs : List (List ℕ)) (s : State) (b : Buffers)
    → Every (λ a. a.cells ≡ b.finished_cells) (accumulations (trace_of R s b rs))
unfolding trace_of accumulations
all_lent R h [] s b =
    let x = R.finishes s b in
    out_lent x.result.closed.accumulation x.left.finished_cells b.finished_cells (rw (h.finishes s b))
all_lent R h (r ∷ rs) s b =
    let x = R.steps s b r in
    every_joined (λ a. a.cells ≡ b.finished_cells) _ _
    (out_lent x.result.closed.accumulation x.left.finished_cells b.finished_cells (rw (h.steps s b r)))
    (rw (h.steps s b r) (all_lent R h rs x.result.state b))

-- no cell of 0 has a byte of the first record, whose bytes are 1
science_ones : (k : ℕ) → k < 83 → get_or (science_bytes (packet first)) k 0 ≡ 1
unfolding first made both
science_ones k h = eqb→eq _ _ (upto_at (λ k. eqb (get_or (science_bytes (packet first)) k 0) 1) 83 tt k h)

no_byte : (a : ClosedAccumulation) (p : ℕ) → a.cells ≡ lent.finished_cells → p < cells → is_filled (first ∷ []) a p ≡ false
unfolding has_byte lent
no_byte a p e l =
    let z = ap (λ c. get_or c p 0) e ∙ get_or-replicate {A = ℕ} cells_size p 0 0 (omega arith) in
    rw (z, science_ones (byte_of p) (once p l).is_byte, and-false) (and-false (holds_cell a.report.held p))

none_filled : (os : List ClosedAccumulation) → Every (λ a. a.cells ≡ lent.finished_cells) os → sum (filled_in (first ∷ [])) os ≡ 0
unfolding Every sum
none_filled [] h = refl
none_filled (a ∷ os) h = omega (arith, total_none (λ p. cond (is_filled (first ∷ []) a p) 1 0) cells (λ p l. rw (no_byte a p h.0 l)), none_filled os h.1)

module _ (R : Reader) where
  -- the traces of the two streams, and what is handed out
  abbrev trace_one : Trace
  trace_one = trace_of R fresh lent (fed one)

  abbrev trace_both : Trace
  trace_both = trace_of R fresh lent (fed pair)

  abbrev out_one : List ClosedAccumulation
  out_one = accumulations trace_one

  abbrev out_both : List ClosedAccumulation
  out_both = accumulations trace_both

  stream_one : Stream 100 5 one lent trace_one
  unfolding one Sends fed ExtraRefused trace_of
  stream_one = record {
    sent = (sent_five 100 5 refl, tt);
    near = rw left_one (near_one first);
    within = unfold first Every in subst⁻¹ WithinTurns left_one (omega arith, tt);
    right = lent_sized;
    refused = tt;
  }

  stream_both : Stream 100 5 pair lent trace_both
  unfolding pair Sends fed ExtraRefused trace_of
  stream_both = record {
    sent = (sent_five 100 5 refl, (rw (real_five 100) (sent_six 101 6 refl), tt));
    near = unfold first second in rw left_both (near_two first second (omega arith));
    within = unfold first second Every in subst⁻¹ WithinTurns left_both (omega arith, (omega arith, tt));
    right = lent_sized;
    refused = tt;
  }

  module _ (meets : Meets R) where
    cells_one : cells_listed trace_one ≡ 83
    cells_one = (meets one lent 100 5 stream_one).0.cells_sum ∙ ap (λ g. 83 * length g) real_one

    cells_both : cells_listed trace_both ≡ 166
    cells_both = (meets pair lent 100 5 stream_both).0.cells_sum ∙ ap (λ g. 83 * length g) real_both

    -- "Made-up frame or cell counts break 3, since they are counted from the records fed"
    pub not_made_up : MadeUp R → ⊥
    not_made_up h = omega (arith, cells_one, cells_both, h lent (fed one) (fed pair))

    -- "One that handles the first record and then only nods breaks demand 3": its total is that of the first
    first_accepted : refused_number (R.steps fresh lent (made 100 5)).result.answer ≡ 0
    unfolding one fed trace_of KeptAccepted
    first_accepted = (meets one lent 100 5 stream_one).0.accepted.0

    nodded : Nods R → out_both ≡ out_one
    unfolding one pair fed trace_of accumulations
    nodded h =
        let p = made 100 5 in
        let q = made 101 6 in
        rw (h.closes lent p q first_accepted, h.state lent p q first_accepted, h.left lent p q first_accepted)

    pub not_nodding : Nods R → ⊥
    not_nodding h = omega (arith, cells_one, cells_both, ap (λ (os : List ClosedAccumulation). sum (λ a. cells_held a.report) os) (nodded h))

    -- "One that never joins ... breaks ... the tearing clause in 3"
    not_both : (os : List ClosedAccumulation) → Every (λ a. frames_held a.report ≤ 1) os → Pairwise Filled ((first ∷ second ∷ []) ∷ []) os → ⊥
    unfolding Every Pairwise
    not_both [] few h = h
    not_both (a ∷ []) few h = omega arith
    not_both (a ∷ b ∷ os) few h = h.1

    pub not_never_joining : NeverJoins R → ⊥
    unfolding first second
    not_never_joining h =
        let d = (meets pair lent 100 5 stream_both).0 in
        ⊎_elim (λ (s : Split Joined Parted first second d.parts). omega (arith, s.related refl))
        (λ (w : Whole Joined Parted first second d.parts).
        not_both out_both (h lent (fed pair)) (subst (λ (gs : List (List Kept)). Pairwise Filled gs out_both) w.is d.parts_out))
        (of_two Joined Parted first second d.parts (d.parts_whole ∙ real_both) d.parts_cut)

    -- "Made-up frame ... counts": the first alone has one frame, both have two
    frames_in : (g : List Kept) (n : ℕ) (os : List ClosedAccumulation) → Every (λ a. frames_held a.report ≡ n) os → Pairwise Filled (g ∷ []) os → n ≡ length g
    unfolding Every Pairwise
    frames_in g n [] e h = absurd h
    frames_in g n (a ∷ []) e h = omega arith
    frames_in g n (a ∷ b ∷ os) e h = absurd h.1

    pub not_fixed_frames : (n : ℕ) → FixedFrames R n → ⊥
    unfolding first second
    not_fixed_frames n h =
        let d = (meets one lent 100 5 stream_one).0 in
        let cut = of_one Joined Parted first d.parts (d.parts_whole ∙ real_one) d.parts_cut in
        let alone = subst (λ (gs : List (List Kept)). Pairwise Filled gs out_one) cut d.parts_out in
        let x = frames_in (first ∷ []) n out_one (h lent (fed one)) alone in
        let e = (meets pair lent 100 5 stream_both).0 in
        ⊎_elim (λ (s : Split Joined Parted first second e.parts). omega (arith, s.related refl))
        (λ (w : Whole Joined Parted first second e.parts).
        let both = subst (λ (gs : List (List Kept)). Pairwise Filled gs out_both) w.is e.parts_out in
        omega (arith, x, frames_in (first ∷ second ∷ []) n out_both (h lent (fed pair)) both))
        (of_two Joined Parted first second e.parts (e.parts_whole ∙ real_both) e.parts_cut)

    -- "One that accepts and stores nothing breaks ... demand 3's total": no cell is filled, since what it hands out was lent
    pub not_idle : StoresNothing R → ⊥
    not_idle h =
        let o = (meets one lent 100 5 stream_one).1 in
        let cells = o.filled ∙ ap (λ (g : List Kept). 83 * length g) real_one in
        let same = ap (λ (g : List Kept). cells_filled g trace_one) real_one in
        omega (arith, cells, same, none_filled out_one (all_lent R h (fed one) fresh lent))
