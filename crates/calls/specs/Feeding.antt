-- What feed answers over C's structs.
-- Assumes nothing.
use Rattle.std.specs.Prelude.{ℕ, Bool, cond, ◌&&◌, List, ◌≡◌}
use Rattle.record.specs.Refusals.{number_or_0}
use Rattle.state.specs.Soundness.{sound}
use Rattle.reader.specs.Buffers.{Buffers, sized}
use Rattle.feed.specs.Feeding.{Desk, nothing_fed, desk, feed_all}
use Rattle.feed.specs.declared.feeding.Fed.{Fed}
use Rattle.shapes.specs.States.{is_state, state_in, state_out}
use Rattle.shapes.specs.Closed.{fed_out}
use Rattle.shapes.specs.declared.states.CState.{CState}
use Rattle.shapes.specs.declared.closed.CFed.{CFed}
use Rattle.calls.specs.declared.feeding.CFeeding.{CFeeding}

-- rule 1: a state that passes the list, and buffers of their sizes
unfoldable pub ready_by : CState → Bool → Bool
ready_by s sized = is_state s && (sized && sound (state_in s))

abbrev pub ready : CState → Buffers → Bool
ready s b = ready_by s (sized b)

-- the records from place 0 on
abbrev pub fed_from : CState → Buffers → List ℕ → Desk
fed_from s b bytes = feed_all bytes (desk (nothing_fed (state_in s) 0) b)

-- an answer, and what stands behind the two pointers after it
abbrev pub back_fed : ℕ → CState → CFed → CFeeding
back_fed n s f = record { answer = n; state = s; fed = f }

-- fed from place 0 on: where the next record begins is how many bytes were taken
abbrev pub handed_fed : Fed → CFeeding
handed_fed f = back_fed 0 (state_out f.state) (fed_out f.at (number_or_0 f.refusal) f.closed)

-- 1, and all as found, where rule 1 fails, whatever there is to take; else what is fed from place 0 on
pub record FeedGiven (s : CState) (f : CFed) (b : Buffers) (bytes : List ℕ) (y : CFeeding) (b' : Buffers) : Type 0 where
  pub result : y ≡ cond (ready s b) (handed_fed (fed_from s b bytes).fed) (back_fed 1 s f)
  pub left : b' ≡ cond (ready s b) (fed_from s b bytes).lent b
