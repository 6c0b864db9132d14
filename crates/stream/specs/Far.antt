-- 02's "fewer than 8,388,607 counts in a row go unaccepted" (request 1) is the best bound.
-- Assumes nothing.
use Rattle.std.specs.Prelude.{◌≡◌, true, List, [], ◌∷◌, ℕ, ◌-◌}
use Rattle.clock.specs.Clock.{farthest}
use Rattle.state.specs.Soundness.{fresh}
use Rattle.reader.specs.Buffers.{Buffers, sized}
use Rattle.stream.specs.Running.{run, answers}
use Rattle.stream.specs.Sending.{Fate, Sends, Unwrapped, fed, Kept, unspoiled}
use Rattle.stream.specs.Cutting.{at, unaccepted}

-- a sent stream that doesn't wrap, of which two records are left and nothing else is fed, with n counts in a row not accepted
-- between them: the first is accepted, and the second gets this number
pub record SecondGets (number n : ℕ) : Type 0 where
  pub fates : List Fate
  pub count : ℕ
  pub serial : ℕ
  pub lent : Buffers
  pub sent : Sends count serial fates
  pub whole : Unwrapped count fates
  pub right : sized lent ≡ true
  pub before : Kept
  pub after : Kept
  pub left : unspoiled count serial fates ≡ before ∷ after ∷ []
  pub alone : fed fates ≡ before.bytes ∷ after.bytes ∷ []
  pub lost : unaccepted (unspoiled count serial fates) (at before) (at after) ≡ n
  pub answered : answers (run fresh lent (fed fates)) ≡ 0 ∷ number ∷ []

-- proved as `far` in proofs/Far.antt
pub record Far : Type 0 where
  pub refused : SecondGets 12 farthest
  pub accepted : SecondGets 0 (farthest - 1)
