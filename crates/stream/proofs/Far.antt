-- The bound of 8,388,607 counts in a row is the best one: by so many a record isn't later any more, by one less it is.
-- Assumes nothing.
use mathlib.Core.Path.{◌≡◌, refl, ap, subst⁻¹, ◌∙◌}
use mathlib.Core.Bool.{false}
use mathlib.Core.List.{List, [], ◌∷◌}
use mathlib.Core.Logic.{inl, inr}
use Prim.Native.Nat.{ℕ, ◌+◌, ◌-◌, ◌<◌}
use native.Mathlib.Nat.{zero-add}
use native.Mathlib.Omega.{arith}
use borrow.Author.Tests.{eq-eqb}
use Rattle.record.specs.Contents.{record_of}
use Rattle.clock.specs.Clock.{circle, farthest, later, is_later, accepted}
use Rattle.clock.specs.declared.Clock.{Clock}
use Rattle.clock.proofs.Laws.{Follows, follows_none, follows_last}
use Rattle.state.specs.Soundness.{fresh}
use Rattle.state.specs.Deciding.{state_holds, clock_holds, number_of}
use Rattle.state.proofs.Decisions.{number_is}
use Rattle.reader.specs.Steps.{input}
use Rattle.reader.proofs.Lengths.{is_sized}
use Rattle.gathering.specs.Lists.{Some}
use Rattle.stream.specs.Running.{Call, called, run, trace_of, answers}
use Rattle.stream.specs.Sending.{sent_count, Fate, kept, Sends, sent_many, Unwrapped, fed, Kept, kept_of, unspoiled}
use Rattle.stream.specs.Cutting.{at, unaccepted}
use Rattle.stream.specs.Far.{SecondGets, Far}
use Rattle.stream.proofs.Runs.{answered}
use Rattle.stream.proofs.Parts.{Ready, Stood, start, stands_at, accepts, clock_after, moves}
use Rattle.stream.proofs.Leading.{led}
use Rattle.stream.proofs.Lost.{unaccepted_lost}
use Rattle.stream.proofs.Made.{lent, lent_sized, made, filler, other_filler, sent_filler}
use Rattle.stream.proofs.Silence.{lose, lose_sent, lose_many, lose_kept, lose_fed, next_filler}

-- the first record, at count 0, and what it leaves
abbrev now : Call
now = called fresh lent (made 0 62)

ready : Ready fresh lent
ready = start lent lent_sized

first_stands : Stood fresh 0 (made 0 62)
first_stands = stands_at fresh 0 (follows_none 0 (omega arith)) (made 0 62) (filler 0).counted

first_passes : number_of (input fresh lent (made 0 62)) ≡ 0
first_passes = accepts fresh lent 0 (made 0 62) ready first_stands (filler 0).passes

ready_then : Ready now.result.state now.left
ready_then = moves fresh lent (made 0 62) ready

clock_then : now.result.state.clock ≡ accepted 0
clock_then = clock_after fresh lent 0 (made 0 62) ready first_stands first_passes

-- after the first record n that are lost, and one more
module _ (n : ℕ) where
  abbrev behind : List Fate
  behind = kept (made (1 + n) 62) ∷ []

  stream : List Fate
  stream = kept (made 0 62) ∷ lose 1 n behind

  before : Kept
  before = record { bytes = made 0 62; count = 0; serial = 0; lost = 0 }

  after : Kept
  after = record { bytes = made (1 + n) 62; count = 1 + n; serial = 0; lost = n }

  sent : Sends 0 0 stream
  unfolding stream Sends
  sent = (sent_filler 0 0, rw (other_filler 0) (lose_sent n 1 0 behind (sent_filler (1 + n) 0, tt)))

  whole : n < circle - 1 → Unwrapped 0 stream
  unfolding stream sent_many
  whole h = omega (arith, lose_many n 1 behind)

  left : unspoiled 0 0 stream ≡ before ∷ after ∷ []
  unfolding stream unspoiled kept_of before after
  left = rw (next_filler, lose_kept, zero-add n)

  alone : fed stream ≡ made 0 62 ∷ made (1 + n) 62 ∷ []
  unfolding stream fed
  alone = rw lose_fed

  lost : unaccepted (unspoiled 0 0 stream) (at before) (at after) ≡ n
  unfolding before after
  lost =
      let l = led stream 0 0 sent in
      let ks = unspoiled 0 0 stream in
      let i = subst⁻¹ (Some (λ x. x ≡ before)) left (unfold Some in inl refl) in
      let j = subst⁻¹ (Some (λ x. x ≡ after)) left (unfold Some in inr (inl refl)) in
      let e : n - 0 ≡ n = omega arith in
      unaccepted_lost ks l.count l.serial 0 l.chained before after i j (omega arith) ∙ e

  abbrev number : ℕ
  number = number_of (input now.result.state now.left (made (1 + n) 62))

  told : answers (run fresh lent (fed stream)) ≡ 0 ∷ number ∷ []
  unfolding answers trace_of called
  told = rw (alone, answered (input fresh lent (made 0 62)), first_passes, answered (input now.result.state now.left (made (1 + n) 62)))

  gets : (m : ℕ) → n < circle - 1 → number ≡ m → SecondGets m n
  gets m h e = record {
    fates = stream;
    count = 0;
    serial = 0;
    lent = lent;
    sent = sent;
    whole = whole h;
    right = lent_sized;
    before = before;
    after = after;
    left = left;
    alone = unfold before after in alone;
    lost = lost;
    answered = told ∙ ap (λ (k : ℕ). 0 ∷ k ∷ []) e;
  }

  -- up to 8,388,607 counts ahead it is accepted
  near_number : n < farthest → number ≡ 0
  near_number h =
      let f = subst⁻¹ (λ (y : Clock). Follows y (1 + n)) clock_then (follows_last 0 (1 + n) (omega arith) (omega arith) (omega arith)) in
      let t = stands_at now.result.state (1 + n) f (made (1 + n) 62) (filler (1 + n)).counted in
      accepts now.result.state now.left (1 + n) (made (1 + n) 62) ready_then t (filler (1 + n)).passes

-- one count further than the farthest the record isn't later
not_later : is_later now.result.state.clock (record_of (made (1 + farthest) 62)) ≡ false
unfolding is_later
not_later =
    let e : (record_of (made (1 + farthest) 62)).count ≡ 1 + farthest = unfold sent_count in (filler (1 + farthest)).counted in
    rw (clock_then, e) (unfold later in refl)

far_number : number farthest ≡ 12
unfolding state_holds clock_holds
far_number =
    let r = made (1 + farthest) 62 in
    number_is (input now.result.state now.left r)
    ∙ rw (is_sized now.left ready_then.sized, ready_then.sound.passes, eq-eqb _ 0 (filler (1 + farthest)).passes, not_later)

pub far : Far
far = record {
  refused = gets farthest 12 (omega arith) far_number;
  accepted = gets (farthest - 1) 0 (omega arith) (near_number (farthest - 1) (omega arith));
}
