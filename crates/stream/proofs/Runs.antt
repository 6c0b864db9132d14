-- The trace of a run: the one that the promises of step and finish allow; every state in it keeps the list.
-- Assumes nothing.
use mathlib.Core.Path.{◌≡◌, refl, ap, ◌∙◌}
use mathlib.Core.Bool.{Bool, true, false, cond, ◌&&◌}
use mathlib.Core.List.{List, [], ◌∷◌}
use Prim.Native.Nat.{ℕ}
use Rattle.prelude.specs.Every.{Every}
use Rattle.record.specs.Refusals.{refusal_number, numbered, table}
use Rattle.record.specs.Rules.{refused_number}
use Rattle.state.specs.Soundness.{sound}
use Rattle.state.specs.Deciding.{Input, number_of, decided_of}
use Rattle.state.specs.Ending.{ending, unended, ended_of, end_number}
use Rattle.state.specs.Keeping.{Sound}
use Rattle.state.specs.declared.State.{State}
use Rattle.state.proofs.Decisions.{decided_is}
use Rattle.state.proofs.Keeping.{step_sound, end_sound}
use Rattle.reader.specs.Buffers.{Buffers, sized}
use Rattle.reader.specs.Steps.{input}
use Rattle.stream.specs.Running.{Call, Reader, Trace, step, finish, trace_of, called, defined, run, StepAllowed, Allowed, states}
use Rattle.stream.specs.Law.{Keeps}

-- the number of a decision is that of its answer
pub answered : (i : Input) → refused_number (decided_of i).stepped.answer ≡ number_of i
answered i = (decided_is i (decided_of i) refl).number

pub finished : (s : State) (size : Bool) → refused_number (ended_of s size).finished.ending ≡ end_number s size
unfolding ended_of refused_number refusal_number numbered table
finished s size = go (size && sound s)
  where
    go : (t : Bool) → refused_number (cond t (ending s) (unended s)).finished.ending ≡ cond t 0 1
    go true = refl
    go false = refl

-- whatever meets the promise of step is this call
pub only_call : (s : State) (b : Buffers) (r : List ℕ) (c : Call) → StepAllowed s b r c → c ≡ called s b r
unfolding called
only_call s b r c h = rw (h.result, h.left)

-- the only trace that the promises allow at each call is `run`
pub only_run : (rs : List (List ℕ)) (s : State) (b : Buffers) (t : Trace) → Allowed s b rs t → t ≡ run s b rs
unfolding Allowed trace_of
only_run [] s b (finish e) h = rw (h.result, h.left)
only_run [] s b (step c t) h = absurd h
only_run (r ∷ rs) s b (finish e) h = absurd h
only_run (r ∷ rs) s b (step c t) h =
    ap (step c) (only_run rs c.result.state c.left t h.1)
    ∙ rw (only_call s b r c h.0)

-- the reader of the definitions keeps the promises
pub defined_keeps : Keeps defined
unfolding called
defined_keeps = record {
  steps = λ s b r. record { result = refl; number = answered (input s b r); left = refl };
  finishes = λ s b. record { result = refl; number = finished s (sized b); left = refl };
}

-- the trace of a reader that keeps them is allowed
pub traced : (R : Reader) → Keeps R → (rs : List (List ℕ)) (s : State) (b : Buffers) → Allowed s b rs (trace_of R s b rs)
unfolding Allowed trace_of
traced R k [] s b = k.finishes s b
traced R k (r ∷ rs) s b = (k.steps s b r, traced R k rs (R.steps s b r).result.state (R.steps s b r).left)

pub run_allowed : (rs : List (List ℕ)) (s : State) (b : Buffers) → Allowed s b rs (run s b rs)
run_allowed = traced defined defined_keeps

-- "The state list" is kept, whatever is fed
pub run_sound : (rs : List (List ℕ)) (s : State) (b : Buffers) → Sound s → Every Sound (states (run s b rs))
unfolding Every states trace_of called
run_sound [] s b h = (end_sound s (sized b) h, tt)
run_sound (r ∷ rs) s b h = let k = step_sound (input s b r) h in (k, run_sound rs _ _ k)
