-- One call: an accepted record moves the accumulation with its cells and the major frame with its samples, each by itself; a
-- refused one moves nothing.
-- Assumes nothing.
use mathlib.Core.Path.{◌≡◌, refl, sym, ap, ◌∙◌}
use mathlib.Core.Bool.{Bool, true, false, cond}
use mathlib.Core.List.{List, [], ◌∷◌, ◌++◌}
use Prim.Native.Nat.{ℕ, ◌*◌, ◌<◌}
use native.Mathlib.Omega.{arith}
use Rattle.std.specs.Prelude.{Some, None, Ok}
use lib.IntN.{ℤ, pos}
use lib.ListN.{length, replicate}
use Rattle.buffers.specs.Laying.{patch}
use Rattle.record.specs.Layout.{packet_bytes, frame_code, mag_bytes, science_bytes}
use Rattle.record.specs.Contents.{record_of}
use Rattle.record.specs.Rules.{refused_number}
use Rattle.record.specs.Frame.{carries_science}
use Rattle.record.specs.declared.frame.Kind.{Kind}
use Rattle.record.proofs.Types.{science_real}
use Rattle.clock.specs.Clock.{dated}
use Rattle.mag.specs.Samples.{samples_size, range, samples}
use Rattle.bursts.specs.Bursts.{snapshot_size}
use Rattle.cells.specs.Laying.{cells_size, laid_frame}
use Rattle.accumulation.specs.Accumulation.{is_open, joins, joined, started, passed, reported}
use Rattle.accumulation.specs.Accumulation.{passes, extends, renews, step_accumulation}
use Rattle.major.specs.Major.{major_samples, slot_of, major_open, no_major, continues, into, major_reported, stays, major_renews, step_major}
use Rattle.state.specs.Deciding.{number_of, refusal, acceptance, decided_of}
use Rattle.state.specs.declared.State.{State}
use Rattle.accumulation.specs.declared.Accumulation.{Accumulation}
use Rattle.accumulation.specs.declared.AccumulationReport.{AccumulationReport}
use Rattle.accumulation.specs.declared.AccumulationStep.{AccumulationStep}
use Rattle.accumulation.specs.declared.GapDecision.TheVariants.{Joins}
use Rattle.state.specs.declared.deciding.Decided.{Decided}
use Rattle.major.specs.declared.Major.{Major}
use Rattle.major.specs.declared.MajorStep.{MajorStep}
use Rattle.state.proofs.Decisions.{accepted_is, refused_is}
use Rattle.reader.specs.Buffers.{Buffers, copied_by, cells_after, samples_after, worked}
use Rattle.reader.specs.Steps.{input}
use Rattle.gathering.specs.Gathering.{Gatherer, gather}
use Rattle.stream.specs.Running.{Call, Trace, step, ClosedAccumulation, ClosedMajor, called, handed_accumulation, handed_major, accumulations, majors}
use Rattle.stream.specs.Sending.{real_time, Kept, has_mag}
use Rattle.stream.specs.Cutting.{at, type_of}
use Rattle.stream.specs.Filling.{packet}
use Rattle.stream.proofs.Runs.{answered}

-- a frame laid into cells, and a slot's samples into samples
unfoldable pub cells_with : Kept → List ℕ → List ℕ
cells_with x c = laid_frame (frame_code (packet x)) (science_bytes (packet x)) c

unfoldable pub samples_with : Kept → List ℤ → List ℤ
samples_with x s = cond (has_mag x) (patch s (samples_size * slot_of (at x)) (samples (mag_bytes (packet x)))) s

abbrev pub no_cells : List ℕ
no_cells = replicate cells_size 0

abbrev pub no_samples : List ℤ
no_samples = replicate major_samples (pos 0)

abbrev pub no_bytes : List ℕ
no_bytes = replicate snapshot_size 0

-- what is open is handed out when it closes
unfoldable pub closing : Accumulation → List ℕ → List ClosedAccumulation
closing a c = cond (is_open a) (record { report = record { first = a.first; held = a.held }; cells = c } ∷ []) []

unfoldable pub major_closing : Major → List ℤ → List ClosedMajor
major_closing m s = cond (major_open m) (record { frame = m; samples = s } ∷ []) []

-- the major frame with a record's slot in it
unfoldable pub major_with : Kept → Major → Major
major_with x m = into m (at x) (has_mag x) (range (mag_bytes (packet x))) (record_of x.bytes).subcom

-- accepted records as the accumulation alone meets them, with its cells, and as the major frame does, with its samples
abbrev pub accumulating : Gatherer Kept Kept (Accumulation × List ℕ) ClosedAccumulation
accumulating = record {
  takes = λ x. real_time x.bytes;
  item = λ x. x;
  goes_on = λ g x. joins g.0 (type_of x) (at x);
  puts = λ x g. (joined g.0 (type_of x) (at x), cells_with x g.1);
  opens = λ x. (started (type_of x) (at x), cells_with x no_cells);
  passes = λ x g. (passed g.0, g.1);
  closing = λ g. closing g.0 g.1;
}

abbrev pub collecting : Gatherer Kept Kept (Major × List ℤ) ClosedMajor
collecting = record {
  takes = λ x. true;
  item = λ x. x;
  goes_on = λ g x. continues g.0 (at x);
  puts = λ x g. (major_with x g.0, samples_with x g.1);
  opens = λ x. (major_with x no_major, samples_with x no_samples);
  passes = λ x g. g;
  closing = λ g. major_closing g.0 g.1;
}

abbrev pub accumulate : Accumulation → List ℕ → List Kept → List ClosedAccumulation
accumulate a c xs = gather accumulating (a, c) xs

abbrev pub collect : Major → List ℤ → List Kept → List ClosedMajor
collect m s xs = gather collecting (m, s) xs

-- a call by the decision that it comes to
abbrev pub call_of : Buffers → List ℕ → Decided → Call
call_of b r x = record { result = x.stepped; left = worked x.works (packet_bytes r) b }

call_is : (s : State) (b : Buffers) (r : List ℕ) (x : Decided) → decided_of (input s b r) ≡ x → called s b r ≡ call_of b r x
unfolding called
call_is s b r x e = ap (call_of b r) e

-- a refused record
pub refused_call : (s : State) (b : Buffers) (r : List ℕ) → 0 < refused_number (called s b r).result.answer
    → called s b r ≡ record { result = (refusal s (number_of (input s b r))).stepped; left = b }
unfolding called
refused_call s b r h = call_is s b r _ (refused_is (input s b r) (λ z. omega (arith, answered (input s b r))))

-- what closes is handed out with the open buffer as it was
abbrev report_of : Accumulation → AccumulationReport
report_of a = record { first = a.first; held = a.held }

pub cells_out : (a : Accumulation) (c d : List ℕ) → handed_accumulation (reported a) (copied_by (is_open a) c d) ≡ closing a c
unfolding closing
cells_out a c d = go (is_open a)
  where
    go : (t : Bool) → handed_accumulation (cond t (Some (report_of a)) None) (copied_by t c d) ≡ cond t (record { report = report_of a; cells = c } ∷ []) []
    go true = refl
    go false = refl

pub samples_out : (m : Major) (c d : List ℤ) → handed_major (major_reported m) (copied_by (major_open m) c d) ≡ major_closing m c
unfolding major_closing
samples_out m c d = go (major_open m)
  where
    go : (t : Bool) → handed_major (cond t (Some m) None) (copied_by t c d) ≡ cond t (record { frame = m; samples = c } ∷ []) []
    go true = refl
    go false = refl

-- an accepted record, at the count at which it was sent
module _ (s : State) (b : Buffers) (x : Kept) (e : number_of (input s b x.bytes) ≡ 0) (q : dated s.clock (record_of x.bytes) ≡ at x) where
  abbrev kind : Kind
  kind = (record_of x.bytes).kind

  abbrev pub taken : Decided
  taken = acceptance s (record_of x.bytes) (at x) (range (mag_bytes (packet x)))

  pub is_taken : called s b x.bytes ≡ call_of b x.bytes taken
  is_taken = call_is s b x.bytes taken (accepted_is (input s b x.bytes) e ∙ rw q)

  -- what carries science is real-time
  carries : real_time x.bytes ≡ true → carries_science kind ≡ true
  carries r = science_real kind ∙ r

  -- a record that opens an accumulation, and one that joins
  pub opening : real_time x.bytes ≡ true → joins s.accumulation (type_of x) (at x) ≡ false
      → (called s b x.bytes).result.state.accumulation ≡ started (type_of x) (at x)
  unfolding acceptance step_accumulation
  opening r j = rw (is_taken, carries r, j)

  pub joining : real_time x.bytes ≡ true → joins s.accumulation (type_of x) (at x) ≡ true
      → (called s b x.bytes).result.answer ≡ Ok (record { fields = record_of x.bytes; gap = Joins })
  unfolding acceptance step_accumulation
  joining r j = rw (is_taken, carries r, j)

  module _ (t : Trace) (xs : List Kept) where
    -- the accumulation and the open cells
    abbrev FromCells : Call → Type 0
    FromCells c = accumulations t ≡ accumulate c.result.state.accumulation c.left.open_cells xs
        → accumulations (step c t) ≡ accumulate s.accumulation b.open_cells (x ∷ xs)

    pub cells_call : length b.open_cells ≡ cells_size → FromCells (called s b x.bytes)
    unfolding step_accumulation cells_with acceptance accumulations gather
    cells_call n = rw is_taken (go (carries_science kind) (joins s.accumulation (type_of x) (at x)) (science_real kind))
      where
        step_of : Bool → Bool → AccumulationStep
        step_of p j = cond p (cond j (extends s.accumulation (type_of x) (at x)) (renews s.accumulation (type_of x) (at x))) (passes s.accumulation)

        go : (p j : Bool) → p ≡ real_time x.bytes
            → accumulations t ≡ accumulate (step_of p j).next (cells_after (step_of p j).work (packet x) b.open_cells) xs
            → handed_accumulation (step_of p j).report (copied_by (step_of p j).work.copies b.open_cells b.finished_cells) ++ accumulations t
            ≡ cond (real_time x.bytes)
            (cond j
            (accumulate (joined s.accumulation (type_of x) (at x)) (cells_with x b.open_cells) xs)
            (closing s.accumulation b.open_cells ++ accumulate (started (type_of x) (at x)) (cells_with x no_cells) xs))
            (accumulate (passed s.accumulation) b.open_cells xs)
        go true true r h = rw (sym r) h
        go true false r h = rw (sym r, cells_out, h, n)
        go false j r h = rw (sym r) h

    -- the major frame and the open samples
    abbrev FromSamples : Call → Type 0
    FromSamples c = majors t ≡ collect c.result.state.major c.left.open_samples xs
        → majors (step c t) ≡ collect s.major b.open_samples (x ∷ xs)

    pub samples_call : length b.open_samples ≡ major_samples → FromSamples (called s b x.bytes)
    unfolding step_major samples_with acceptance majors gather major_with
    samples_call n = rw is_taken (λ h. go (continues s.major (at x)) h)
      where
        step_of : Bool → MajorStep
        step_of p =
            cond p
            (stays s.major (at x) (has_mag x) (range (mag_bytes (packet x))) (record_of x.bytes).subcom)
            (major_renews s.major (at x) (has_mag x) (range (mag_bytes (packet x))) (record_of x.bytes).subcom)

        go : (p : Bool) → majors t ≡ collect (step_of p).next (samples_after (step_of p).work (packet x) b.open_samples) xs
            → handed_major (step_of p).report (copied_by (step_of p).work.work.copies b.open_samples b.finished_samples) ++ majors t
            ≡ cond p
            (collect (major_with x s.major) (samples_with x b.open_samples) xs)
            (major_closing s.major b.open_samples ++ collect (major_with x no_major) (samples_with x no_samples) xs)
        go true h = h
        go false h = rw (samples_out, h, n)
