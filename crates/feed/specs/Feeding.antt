-- Whole records fed to the reader, one after another, until one has something to tell.
-- Assumes nothing.
use Rattle.std.specs.Prelude.{ℕ, zero, suc, ◌+◌, ◌-◌, ◌/◌, Bool, cond, ◌&&◌, List, [], ◌∷◌, ◌≡◌, length, None, is_none}
use Rattle.std.specs.Result.{result_err}
use Rattle.record.specs.Layout.{size}
use Rattle.state.specs.Closed.{nothing_closed}
use Rattle.state.specs.Deciding.{decided_of}
use Rattle.state.specs.declared.State.{State}
use Rattle.state.specs.declared.closed.Closed.{Closed}
use Rattle.state.specs.declared.deciding.Stepped.{Stepped}
use Rattle.reader.specs.Buffers.{Buffers}
use Rattle.reader.specs.Steps.{input, stepped}
use Rattle.feed.specs.declared.feeding.Fed.{Fed}
use Rattle.feed.specs.Cutting.{record_at}

-- before the first: nothing to tell
abbrev pub nothing_fed : State → ℕ → Fed
nothing_fed s at = record { from = at; at = at; refusal = None; state = s; closed = nothing_closed }

-- after a record that began at `from`, with the next one at `at`
abbrev pub told : ℕ → ℕ → Stepped → Fed
told from at x = record { from = from; at = at; refusal = result_err x.answer; state = x.state; closed = x.closed }

-- closed nothing
unfoldable pub is_nothing : Closed → Bool
is_nothing c = is_none c.major && (is_none c.accumulation && (is_none c.first_snapshot && is_none c.second_snapshot))

-- accepted, and closed nothing
abbrev pub quiet : Fed → Bool
quiet f = is_none f.refusal && is_nothing f.closed

-- what was told last, and the lent buffers
pub record Desk : Type 0 where
  pub fed : Fed
  pub lent : Buffers

-- the record at its place
abbrev pub upcoming : List ℕ → Desk → List ℕ
upcoming bytes d = record_at bytes d.fed.at

-- the reader's step on it
unfoldable pub fed_one : List ℕ → Desk → Desk
fed_one bytes d = record {
  fed = told d.fed.at (d.fed.at + length (upcoming bytes d)) (decided_of (input d.fed.state d.lent (upcoming bytes d))).stepped;
  lent = stepped d.fed.state d.lent (upcoming bytes d);
}

-- up to n records
abbrev pub feed_up_to : ℕ → List ℕ → Desk → Desk
feed_up_to zero bytes d = d
feed_up_to (suc n) bytes d = cond (quiet d.fed) (feed_up_to n bytes (fed_one bytes d)) d

-- the whole records from a place on
abbrev pub whole_from : List ℕ → ℕ → ℕ
whole_from bytes at = (length bytes - at) / size

unfoldable pub feed_all : List ℕ → Desk → Desk
feed_all bytes d = feed_up_to (whole_from bytes d.fed.at) bytes d

-- all that n records have to tell, in order
abbrev pub told_in : ℕ → List ℕ → Desk → List Fed
told_in zero bytes d = []
told_in (suc n) bytes d = cond (quiet (fed_one bytes d).fed) (told_in n bytes (fed_one bytes d)) ((fed_one bytes d).fed ∷ told_in n bytes (fed_one bytes d))

-- all that the whole records from the desk's place on have to tell, in order
unfoldable pub told_all : List ℕ → Desk → List Fed
told_all bytes d = told_in (whole_from bytes d.fed.at) bytes d

abbrev pub desk : Fed → Buffers → Desk
desk f b = record { fed = f; lent = b }

-- the answer and the content of the buffers
pub record DeskIs (d : Desk) (x : Fed) (b : Buffers) : Type 0 where
  pub result : x ≡ d.fed
  pub left : b ≡ d.lent

abbrev pub OneIs : State → Buffers → List ℕ → ℕ → Fed → Buffers → Type 0
OneIs s b bytes at = DeskIs (fed_one bytes (desk (nothing_fed s at) b))

abbrev pub FeedIs : State → Buffers → List ℕ → ℕ → Fed → Buffers → Type 0
FeedIs s b bytes at = DeskIs (feed_all bytes (desk (nothing_fed s at) b))
