-- What is handed over, from what the reader promises.
-- Assumes nothing.
use Prim.Native.Nat.{ℕ}
use mathlib.Core.Bool.{Bool, true, false, cond}
use mathlib.Core.List.{List}
use mathlib.Core.Path.{◌≡◌, refl, sym, ap, ◌∙◌}
use Rattle.std.specs.Prelude.{Result, Ok, Err, ⊤, Some, None}
use Rattle.std.proofs.lemmas.Option.{cond_some, none-some}
use Rattle.record.specs.Rules.{refused_number}
use Rattle.record.specs.declared.refusal.Refusal.{Refusal}
use Rattle.state.specs.declared.State.{State}
use Rattle.state.specs.declared.deciding.Stepped.{Stepped}
use Rattle.state.specs.declared.deciding.Taken.{Taken}
use Rattle.state.specs.declared.ending.Finished.{Finished}
use Rattle.reader.specs.Buffers.{Buffers}
use Rattle.reader.specs.Steps.{StepIs, FinishIs}
use Rattle.feed.specs.Feeding.{FeedIs}
use Rattle.feed.specs.declared.feeding.Fed.{Fed}
use Rattle.shapes.specs.States.{is_state, state_in}
use Rattle.shapes.specs.declared.states.CState.{CState}
use Rattle.shapes.specs.declared.closed.CClosed.{CClosed}
use Rattle.shapes.specs.declared.closed.CReport.{CReport}
use Rattle.shapes.specs.declared.closed.CFed.{CFed}
use Rattle.calls.specs.Reading.{handed_back, back_closed, handed_by, handed, handed_end, handed_closed, StepGiven, FinishGiven}
use Rattle.calls.specs.Feeding.{ready_by, ready, back_fed, handed_fed, FeedGiven}
use Rattle.calls.specs.Inner.Readying.{ready_state}
use Rattle.calls.specs.declared.stepping.CStepped.{CStepped}
use Rattle.calls.specs.declared.stepping.CFinished.{CFinished}
use Rattle.calls.specs.declared.feeding.CFeeding.{CFeeding}

-- a test that has its answer
chosen {ℓ} : {A : Type ℓ} (t b : Bool) (x y : A) → t ≡ b → cond b x y ≡ cond t x y
chosen t b x y e = cc

-- the number of what is handed over
handed_number : (x : Stepped) (s : CState) (p : CReport) → (handed x s p).answer ≡ refused_number x.answer
unfolding handed refused_number
handed_number x s p = go x.answer
  where
    go : (a : Result Taken Refusal) → (handed_by a x s p).answer ≡ refused_number a
    go (Err e) = refl
    go (Ok t) = refl

closed_number : (x : Finished) (s : CState) (c : CClosed) → (handed_closed x s c).answer ≡ refused_number x.ending
unfolding handed_closed refused_number
closed_number x s c = go x.ending
  where
    go : (e : Result ⊤ Refusal) → (handed_end e x s c).answer ≡ refused_number e
    go (Err e) = refl
    go (Ok t) = refl

-- the state that is fed, and where none is
module _ (s : CState) (z : Bool) where
  pub ready_told : (k : State) → ready_state s z ≡ Some k → (ready_by s z ≡ true) × (k ≡ state_in s)
  unfolding ready_state
  ready_told k e = let t = cond_some (ready_by s z) (state_in s) k e in (t.0, sym t.1)

  pub unready_told : ready_state s z ≡ None → ready_by s z ≡ false
  unfolding ready_state
  unready_told e = go (ready_by s z) e
    where
      go : (t : Bool) → cond t (Some (state_in s)) None ≡ None → t ≡ false
      go true h = absurd (none-some (state_in s) (sym h))
      go false h = refl

module _ (s : CState) (b : Buffers) where
  module _ (p : CReport) (r : List ℕ) where
    pub step_unread : is_state s ≡ false → StepGiven s p b r (handed_back 1 s p) b
    step_unread e = record { number = chosen (is_state s) false _ _ e; result = chosen (is_state s) false _ _ e; left = chosen (is_state s) false _ _ e }

    pub step_given : is_state s ≡ true → (x : Stepped) (b' : Buffers) → StepIs (state_in s) b r x b' → (y : CStepped) → y ≡ handed x s p
        → StepGiven s p b r y b'
    step_given e x b' is y h =
        record {
          number = ap (λ z. z.answer) h ∙ handed_number x s p ∙ is.number ∙ chosen (is_state s) true _ _ e;
          result = h ∙ ap (λ z. handed z s p) is.result ∙ chosen (is_state s) true _ _ e;
          left = is.left ∙ chosen (is_state s) true _ _ e;
        }

  module _ (c : CClosed) where
    pub finish_unread : is_state s ≡ false → FinishGiven s c b (back_closed 1 s c) b
    finish_unread e = record { number = chosen (is_state s) false _ _ e; result = chosen (is_state s) false _ _ e; left = chosen (is_state s) false _ _ e }

    pub finish_given : is_state s ≡ true → (x : Finished) (b' : Buffers) → FinishIs (state_in s) b x b' → (y : CFinished) → y ≡ handed_closed x s c
        → FinishGiven s c b y b'
    finish_given e x b' is y h = record {
      number = ap (λ z. z.answer) h ∙ closed_number x s c ∙ is.number ∙ chosen (is_state s) true _ _ e;
      result = h ∙ ap (λ z. handed_closed z s c) is.result ∙ chosen (is_state s) true _ _ e;
      left = is.left ∙ chosen (is_state s) true _ _ e;
    }

  module _ (f : CFed) (bytes : List ℕ) where
    pub feed_unread : ready s b ≡ false → FeedGiven s f b bytes (back_fed 1 s f) b
    feed_unread e = record { result = chosen (ready s b) false _ _ e; left = chosen (ready s b) false _ _ e }

    pub feed_given : ready s b ≡ true → (x : Fed) (b' : Buffers) → FeedIs (state_in s) b bytes 0 x b'
        → (y : CFeeding) → y ≡ handed_fed x → FeedGiven s f b bytes y b'
    feed_given e x b' is y h = record {
      result = h ∙ ap handed_fed is.result ∙ chosen (ready s b) true _ _ e;
      left = is.left ∙ chosen (ready s b) true _ _ e;
    }
