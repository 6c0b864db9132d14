-- What C can rely on: one outcome for what is handed in, and a refusal that leaves all that was lent as found.
-- Assumes nothing.
use Prim.Native.Nat.{ℕ}
use mathlib.Core.Bool.{Bool, true, false, cond, ◌&&◌}
use mathlib.Core.List.{List, []}
use mathlib.Core.Path.{◌≡◌, sym, ap, ◌∙◌}
use lib.Ieee.{Float}
use lib.IntN.{ℤ}
use borrow.Author.Tests.{ne_eqb}
use Rattle.prelude.proofs.Single.{one}
use Rattle.record.specs.Rules.{broken}
use Rattle.record.specs.Contents.{record_of}
use Rattle.shapes.specs.Fields.{fields_out}
use Rattle.state.specs.Deciding.{number_of, decided_of}
use Rattle.state.specs.Ending.{ended_of, ending, unended}
use Rattle.state.specs.Soundness.{sound}
use Rattle.state.proofs.Decisions.{refused_is}
use Rattle.reader.specs.Buffers.{Buffers, sized, worked}
use Rattle.reader.specs.Steps.{input, stepped}
use Rattle.shapes.specs.States.{is_state, state_in}
use Rattle.shapes.specs.declared.fields.CFields.{CFields}
use Rattle.shapes.specs.declared.frames.CMajor.{CMajor}
use Rattle.shapes.specs.declared.states.CState.{CState}
use Rattle.shapes.specs.declared.closed.CClosed.{CClosed}
use Rattle.shapes.specs.declared.closed.CReport.{CReport}
use Rattle.shapes.specs.declared.closed.CFed.{CFed}
use Rattle.c_answers.proofs.Single.{one_value}
use Rattle.calls.specs.Contents.{FieldsGiven, back_fields}
use Rattle.calls.specs.Reading.{handed_back, back_closed, handed, handed_closed, StepGiven, FinishGiven}
use Rattle.calls.specs.Feeding.{ready, fed_from, back_fed, handed_fed, FeedGiven}
use Rattle.calls.specs.Frames.{NominalGiven}
use Rattle.calls.specs.declared.contents.CContents.{CContents}
use Rattle.calls.specs.declared.stepping.CStepped.{CStepped}
use Rattle.calls.specs.declared.stepping.CFinished.{CFinished}
use Rattle.calls.specs.declared.feeding.CFeeding.{CFeeding}

-- one outcome
pub one_fields : (c : CFields) (r : List ℕ) (x y : CContents) → FieldsGiven c r x → FieldsGiven c r y → x ≡ y
one_fields c r x y u v = λ i. back_fields (one u.number v.number i) (one u.written v.written i)

pub one_nominal : (c : CMajor) (samples : List ℤ) (s k : ℕ) (old : Float) (m n : ℕ) (a b : Float)
    → NominalGiven c samples s k old m a → NominalGiven c samples s k old n b → (m ≡ n) × (a ≡ b)
one_nominal c samples s k old m n a b x y = one_value _ _ _ old m n a b x.given y.given

module _ (s : CState) (b c d : Buffers) where
  pub one_step : (p : CReport) (r : List ℕ) (x y : CStepped) → StepGiven s p b r x c → StepGiven s p b r y d → (x ≡ y) × (c ≡ d)
  one_step p r x y u v = (one u.result v.result, one u.left v.left)

  pub one_finish : (p : CClosed) (x y : CFinished) → FinishGiven s p b x c → FinishGiven s p b y d → (x ≡ y) × (c ≡ d)
  one_finish p x y u v = (one u.result v.result, one u.left v.left)

  pub one_feed : (f : CFed) (bytes : List ℕ) (x y : CFeeding) → FeedGiven s f b bytes x c → FeedGiven s f b bytes y d → (x ≡ y) × (c ≡ d)
  one_feed f bytes x y u v = (one u.result v.result, one u.left v.left)

-- where the answer isn't 0, what was lent to fields, step, finish or feed is as found (01: "state and all four buffers stay as found",
-- and so do the three that 02, request 2, adds)
pub fields_kept : (c : CFields) (r : List ℕ) (y : CContents) → FieldsGiven c r y → (y.answer ≡ 0 → ⊥) → y ≡ back_fields y.answer c
fields_kept c r y is z =
    let e = ap (λ t. cond t (fields_out (record_of r)) c) (ne_eqb (broken r) 0 (λ n. z (is.number ∙ n))) in
    ap (back_fields y.answer) (is.written ∙ e)

module _ (s : CState) (b b' : Buffers) where
  module _ (p : CReport) (r : List ℕ) (y : CStepped) (is : StepGiven s p b r y b') (z : y.answer ≡ 0 → ⊥) where
    pub step_kept : (y ≡ handed_back y.answer s p) × (b' ≡ b)
    unfolding handed
    step_kept = go (is_state s) is.number is.result is.left
      where
        go : (t : Bool) → y.answer ≡ cond t (number_of (input (state_in s) b r)) 1
            → y ≡ cond t (handed (decided_of (input (state_in s) b r)).stepped s p) (handed_back 1 s p)
            → b' ≡ cond t (stepped (state_in s) b r) b → (y ≡ handed_back y.answer s p) × (b' ≡ b)
        go true n e l =
            let q = refused_is (input (state_in s) b r) (λ o. z (n ∙ o)) in
            let f = e ∙ ap (λ x. handed x.stepped s p) q in
            (f ∙ sym (rw f), l ∙ rw q)
        go false n e l = (e ∙ sym (rw e), l)

  module _ (p : CClosed) (y : CFinished) (is : FinishGiven s p b y b') (z : y.answer ≡ 0 → ⊥) where
    pub finish_kept : (y ≡ back_closed y.answer s p) × (b' ≡ b)
    unfolding handed_closed ended_of
    finish_kept = go (is_state s) (sized b && sound (state_in s)) is.number is.result is.left
      where
        go : (t u : Bool) → y.answer ≡ cond t (cond u 0 1) 1
            → y ≡ cond t (handed_closed (cond u (ending (state_in s)) (unended (state_in s))).finished s p) (back_closed 1 s p)
            → b' ≡ cond t (worked (cond u (ending (state_in s)) (unended (state_in s))).works [] b) b
            → (y ≡ back_closed y.answer s p) × (b' ≡ b)
        go true true n e l = absurd (z n)
        go true false n e l = (e ∙ sym (rw e), l)
        go false u n e l = (e ∙ sym (rw e), l)

  module _ (f : CFed) (bytes : List ℕ) (y : CFeeding) (is : FeedGiven s f b bytes y b') (z : y.answer ≡ 0 → ⊥) where
    pub feed_kept : (y ≡ back_fed y.answer s f) × (b' ≡ b)
    feed_kept = go (ready s b) is.result is.left
      where
        go : (t : Bool) → y ≡ cond t (handed_fed (fed_from s b bytes).fed) (back_fed 1 s f) → b' ≡ cond t (fed_from s b bytes).lent b
            → (y ≡ back_fed y.answer s f) × (b' ≡ b)
        go true e l = absurd (z (rw e))
        go false e l = (e ∙ sym (rw e), l)
