-- Demand 3's 36 is the best bound.
-- Assumes nothing.
use Rattle.std.specs.Prelude.{◌≡◌, List, ℕ, ◌<◌}
use Rattle.prelude.specs.Every.{Every}
use Rattle.state.specs.Soundness.{fresh}
use Rattle.reader.specs.Buffers.{Buffers}
use Rattle.gathering.specs.Lists.{Neighbours}
use Rattle.stream.specs.Running.{run, accumulations}
use Rattle.stream.specs.Sending.{Fate, fed, Stream, Kept, unspoiled, real_unspoiled}
use Rattle.stream.specs.Cutting.{at, round, unaccepted, tears}
use Rattle.stream.specs.Once.{Own}

-- "An accumulation that was sent is torn when its frames are handed out in more than one": a sent stream in which two
-- neighbouring kept real-time records of one round, with n counts not accepted between them, have no accumulation that is both's
pub record TornBy (n : ℕ) : Type 0 where
  pub fates : List Fate
  pub count : ℕ
  pub serial : ℕ
  pub lent : Buffers
  pub stream : Stream count serial fates lent (run fresh lent (fed fates))
  pub before : Kept
  pub after : Kept
  pub neighbours : Neighbours before after (real_unspoiled count serial fates)
  pub one_round : round before ≡ round after
  pub lost : unaccepted (unspoiled count serial fates) (at before) (at after) ≡ n
  pub apart : Every (λ a. Own (real_unspoiled count serial fates) before a → Own (real_unspoiled count serial fates) after a → ⊥)
      (accumulations (run fresh lent (fed fates)))

-- proved as `tight` in proofs/Tight.antt
pub record Tight : Type 0 where
  pub torn_so : TornBy tears
  pub none_below : (n : ℕ) → n < tears → TornBy n → ⊥
