-- What was sent before the first kept record: it gives no turn, and so the records left are a chain that begins in turn 0.
-- Assumes nothing.
use mathlib.Core.Path.{◌≡◌, refl, ◌∙◌}
use mathlib.Core.List.{List, [], ◌∷◌}
use mathlib.Core.Logic.{inl, inr}
use Prim.Native.Nat.{ℕ, ◌+◌, ◌<◌}
use native.Mathlib.Omega.{arith}
use Rattle.prelude.specs.Every.{Every}
use Rattle.clock.specs.Clock.{circle, own_of, accepted, unset}
use Rattle.clock.proofs.Laws.{follows_none, follows_last}
use Rattle.state.specs.Soundness.{fresh}
use Rattle.reader.specs.Buffers.{Buffers}
use Rattle.gathering.specs.Lists.{Neighbours}
use Rattle.gathering.specs.Laying.{Rising}
use Rattle.stream.specs.Running.{run, trace_of}
use Rattle.stream.specs.Sending.{sent_count, next_real, Fate, kept, removed, extra, SentAt, Sends, fed, ExtraRefused, Kept, kept_of}
use Rattle.stream.specs.Sending.{unspoiled, Near, WithinTurns}
use Rattle.stream.specs.Cutting.{at}
use Rattle.stream.proofs.Chains.{Chain, chain, rising_counts}
use Rattle.stream.proofs.Parts.{Ready, Follow, Parts, parts, ends, lost_one, extra_one}

-- what was sent is so by its counts modulo 2^24
sent_round : (c d k : ℕ) (r : List ℕ) → own_of c ≡ own_of d → SentAt c k r → SentAt d k r
sent_round c d k r e s = record { bytes = s.bytes; passes = s.passes; counted = s.counted ∙ e; typed = s.typed }

pub sends_round : (xs : List Fate) (c d k : ℕ) → own_of c ≡ own_of d → Sends c k xs → Sends d k xs
unfolding Sends
sends_round [] c d k e h = tt
sends_round (kept r ∷ xs) c d k e h = (sent_round c d k r e h.0, sends_round xs (c + 1) (d + 1) (next_real k r) (omega arith) h.1)
sends_round (removed r ∷ xs) c d k e h = (sent_round c d k r e h.0, sends_round xs (c + 1) (d + 1) (next_real k r) (omega arith) h.1)
sends_round (extra x ∷ xs) c d k e h = sends_round xs c d k e h

-- from the first kept record on
own_sends : (xs : List Fate) (c k : ℕ) → Sends c k xs → Sends (own_of c) k xs
own_sends xs c k h = sends_round xs c (own_of c) k (omega arith) h

-- the count and the real-time number with which the records left begin
pub record Led (ks : List Kept) : Type 0 where
  pub count : ℕ
  pub serial : ℕ
  pub chained : Chain count serial 0 ks

pub led : (xs : List Fate) (c k : ℕ) → Sends c k xs → Led (unspoiled c k xs)
unfolding unspoiled Sends Chain
led [] c k h = record { count = 0; serial = 0; chained = tt }
led (kept r ∷ xs) c k h =
    record { count = own_of c; serial = k; chained = chain (kept r ∷ xs) (own_of c) k 0 (own_sends (kept r ∷ xs) c k h) }
led (removed r ∷ xs) c k h = led xs (c + 1) (next_real k r) h.1
led (extra x ∷ xs) c k h = led xs c k h

-- but for the turn the full count of a kept record is the record's own
own_kept : (xs : List Fate) (c k l : ℕ) → Sends c k xs → Every (λ f. sent_count f.bytes ≡ own_of (at f)) (kept_of c k l xs)
unfolding Sends kept_of Every
own_kept [] c k l h = tt
own_kept (extra x ∷ xs) c k l h = own_kept xs c k l h
own_kept (removed r ∷ xs) c k l h = own_kept xs (c + 1) (next_real k r) (l + 1) h.1
own_kept (kept r ∷ xs) c k l h = (h.0.counted, own_kept xs (c + 1) (next_real k r) l h.1)

pub own_counts : (xs : List Fate) (c k : ℕ) → Sends c k xs → Every (λ f. sent_count f.bytes ≡ own_of (at f)) (unspoiled c k xs)
unfolding unspoiled Sends Every
own_counts [] c k h = tt
own_counts (kept r ∷ xs) c k h = own_kept (kept r ∷ xs) (own_of c) k 0 (own_sends (kept r ∷ xs) c k h)
own_counts (removed r ∷ xs) c k h = own_counts xs (c + 1) (next_real k r) h.1
own_counts (extra x ∷ xs) c k h = own_counts xs c k h

-- the first of them is of turn 0
FirstTurn : List Kept → Type 0
FirstTurn [] = Unit {0}
FirstTurn (x ∷ ks) = at x < circle

first_turn : (xs : List Fate) (c k : ℕ) → FirstTurn (unspoiled c k xs)
unfolding unspoiled kept_of FirstTurn
first_turn [] c k = tt
first_turn (kept r ∷ xs) c k = omega arith
first_turn (removed r ∷ xs) c k = first_turn xs (c + 1) (next_real k r)
first_turn (extra x ∷ xs) c k = first_turn xs c k

-- each can follow the one before, and the first a clock that isn't set
follow_on : (p : Kept) (ks : List Kept) → Rising at (at p + 1) ks → Near (p ∷ ks) → WithinTurns ks → Follow (accepted (at p)) ks
unfolding Rising Neighbours Every Follow
follow_on p [] r n w = tt
follow_on p (x ∷ ks) r n w = (
  follows_last (at p) (at x) (omega arith) (omega (arith, n p x (inl (refl, refl)))) w.0,
  follow_on x ks r.1 (λ q f i. n q f (inr i)) w.1,
)

follow_first : (ks : List Kept) (c : ℕ) → FirstTurn ks → Rising at c ks → Near ks → WithinTurns ks → Follow unset ks
unfolding FirstTurn Rising Every Follow
follow_first [] c h r n w = tt
follow_first (x ∷ ks) c h r n w = (follows_none (at x) h, follow_on x ks r.1 n w.1)

pub follows : (xs : List Fate) (c k : ℕ) → Sends c k xs → Near (unspoiled c k xs) → WithinTurns (unspoiled c k xs)
    → Follow unset (unspoiled c k xs)
follows xs c k h n w =
    let l = led xs c k h in
    let ks = unspoiled c k xs in
    follow_first ks l.count (first_turn xs c k) (rising_counts ks l.count l.serial 0 l.chained) n w

-- what is kept is accepted, and what is handed out is of those left
pub left_parts : (xs : List Fate) (c k : ℕ) (b : Buffers) → Ready fresh b → Sends c k xs → Follow unset (unspoiled c k xs)
    → ExtraRefused xs (run fresh b (fed xs)) → Parts (unspoiled c k xs) xs fresh b
unfolding unspoiled Sends fed trace_of ExtraRefused
left_parts [] c k b h w f q = ends fresh b h
left_parts (kept r ∷ xs) c k b h w f q = parts (kept r ∷ xs) k 0 (own_of c) fresh b h (own_sends (kept r ∷ xs) c k w) f q
left_parts (removed r ∷ xs) c k b h w f q = lost_one (unspoiled (c + 1) (next_real k r) xs) xs fresh b r (left_parts xs (c + 1) (next_real k r) b h w.1 f q)
left_parts (extra x ∷ xs) c k b h w f q = extra_one (unspoiled c k xs) xs fresh b x q (left_parts xs c k b h w f)
