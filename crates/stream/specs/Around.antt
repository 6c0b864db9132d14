-- Streams that go round, by example (02, request 1): demand 3 speaks of them.
-- Assumes nothing.
use Rattle.std.specs.Prelude.{◌≡◌, List, [], ◌∷◌, ℕ}
use Rattle.listing.specs.Lines.{frames_held}
use Rattle.state.specs.Soundness.{fresh}
use Rattle.reader.specs.Buffers.{Buffers}
use Rattle.stream.specs.Running.{run, ClosedAccumulation, accumulations}
use Rattle.stream.specs.Sending.{sent_count, Fate, kept, removed, fed, Stream}

-- a stream of these fates: one accumulation is handed out, with this first count and so many frames
pub record HandsOut (fates : List Fate) (first frames : ℕ) : Type 0 where
  pub count : ℕ
  pub serial : ℕ
  pub lent : Buffers
  pub stream : Stream count serial fates lent (run fresh lent (fed fates))
  pub one : ClosedAccumulation
  pub alone : accumulations (run fresh lent (fed fates)) ≡ one ∷ []
  pub first_is : one.report.first ≡ first
  pub frames_are : frames_held one.report ≡ frames

-- two neighbouring real-time records, with a restart at 0 between them: both stand in one accumulation; and where the first is lost,
-- the second begins in turn 0. Proved as `around` in proofs/Around.antt
pub record Around : Type 0 where
  pub before : List ℕ
  pub after : List ℕ
  pub last : sent_count before ≡ 16777215
  pub restart : sent_count after ≡ 0
  pub joined : HandsOut (kept before ∷ kept after ∷ []) 16777215 2
  pub begun : HandsOut (removed before ∷ kept after ∷ []) 0 1
