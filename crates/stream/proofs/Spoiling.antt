-- What fails one of rules 2 to 11 is refused, whatever state and buffers it meets.
-- Assumes nothing.
use mathlib.Core.Path.{◌∙◌}
use mathlib.Core.Bool.{Bool, true, false, cond}
use mathlib.Core.List.{List, [], ◌∷◌}
use Prim.Native.Nat.{ℕ, ◌<◌}
use native.Mathlib.Omega.{arith}
use borrow.Author.Tests.{ne_eqb}
use Rattle.record.specs.Rules.{broken, refused_number}
use Rattle.state.specs.Deciding.{state_holds}
use Rattle.state.specs.declared.State.{State}
use Rattle.state.proofs.Decisions.{number_is}
use Rattle.reader.specs.Buffers.{Buffers}
use Rattle.reader.specs.Steps.{input}
use Rattle.stream.specs.Running.{called, trace_of, run}
use Rattle.stream.specs.Sending.{Fate, kept, removed, extra, fed, ExtraRefused, ExtraBroken}
use Rattle.stream.proofs.Runs.{answered}

refuses : (s : State) (b : Buffers) (x : List ℕ) → 0 < broken x → 0 < refused_number (called s b x).result.answer
unfolding called
refuses s b x h = rw (answered (input s b x) ∙ number_is (input s b x), ne_eqb (broken x) 0 (λ e. omega arith)) (go (state_holds (input s b x)))
  where
    go : (t : Bool) → 0 < cond t (broken x) 1
    go true = h
    go false = omega arith

pub spoils : (xs : List Fate) (s : State) (b : Buffers) → ExtraBroken xs → ExtraRefused xs (run s b (fed xs))
unfolding ExtraBroken ExtraRefused fed trace_of
spoils [] s b h = tt
spoils (kept r ∷ xs) s b h = spoils xs _ _ h
spoils (removed r ∷ xs) s b h = spoils xs s b h
spoils (extra x ∷ xs) s b h = (refuses s b x h.0, spoils xs _ _ h.1)
