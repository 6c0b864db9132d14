-- Demand 3's 36 is the best bound: a stream that is torn by 36 lost counts, and none by fewer.
-- Assumes nothing.
use mathlib.Core.Path.{◌≡◌, refl, sym, ap, subst, subst⁻¹, ◌∙◌}
use mathlib.Core.Bool.{true, true≢false}
use mathlib.Core.List.{List, [], ◌∷◌}
use mathlib.Core.Logic.{inl, inr, ⊎_elim}
use Prim.Native.Nat.{ℕ, ◌<◌, ◌≤◌}
use native.Mathlib.Omega.{arith}
use Rattle.prelude.specs.Marks.{bit_set}
use Rattle.prelude.specs.Every.{Every}
use Rattle.carriage.specs.Carriage.{types}
use Rattle.state.specs.Soundness.{fresh}
use Rattle.gathering.specs.Lists.{Some, Pairwise, Neighbours, those}
use Rattle.stream.specs.Running.{Trace, run, trace_of, ClosedAccumulation, accumulations}
use Rattle.stream.specs.Sending.{Fate, kept, Sends, fed, ExtraRefused, Kept, kept_of, reals}
use Rattle.stream.specs.Sending.{unspoiled, real_unspoiled, WithinTurns, Stream}
use Rattle.stream.specs.Cutting.{type_of, tears, Joined, Parted, at, unaccepted}
use Rattle.stream.specs.Filling.{Filled}
use Rattle.stream.specs.Once.{Own}
use Rattle.stream.specs.Tight.{TornBy, Tight}
use Rattle.stream.proofs.Leading.{led}
use Rattle.stream.proofs.Lost.{real_lost}
use Rattle.stream.proofs.Runs.{run_allowed}
use Rattle.stream.proofs.Demand.{demand_3}
use Rattle.stream.proofs.Once.{once_each}
use Rattle.stream.proofs.Pairs.{Split, Whole, of_two, near_two}
use Rattle.stream.proofs.Made.{lent, lent_sized, made, five, six, real_five, real_six, sent_five, sent_six}
use Rattle.stream.proofs.Silence.{lose, lose_sent, lose_kept, lose_refused, lose_fed}

neither : (P Q : ClosedAccumulation → Type 0) (xs : List ClosedAccumulation) → Every (λ a. P a → Q a → ⊥) xs → Some (λ a. P a × Q a) xs → ⊥
unfolding Every Some
neither P Q [] e s = s
neither P Q (x ∷ xs) e (inl b) = e.0 b.0 b.1
neither P Q (x ∷ xs) e (inr s) = neither P Q xs e.1 s

-- "torn in two only where 36 or more counts weren't accepted"
none_below : (n : ℕ) → n < tears → TornBy n → ⊥
none_below n h t =
    let rs = real_unspoiled t.count t.serial t.fates in
    let ks = unspoiled t.count t.serial t.fates in
    let tr = run fresh t.lent (fed t.fates) in
    let P : ClosedAccumulation → Type 0 = Own rs t.before in
    let Q : ClosedAccumulation → Type 0 = Own rs t.after in
    let o = once_each t.fates t.lent t.count t.serial tr t.stream (run_allowed (fed t.fates) fresh t.lent) in
    ⊎_elim (λ (s : Some (λ a. P a × Q a) (accumulations tr)). neither P Q (accumulations tr) t.apart s)
    (λ (s : tears ≤ unaccepted ks (at t.before) (at t.after)). omega (arith, t.lost))
    (o.torn t.before t.after t.neighbours t.one_round)

-- type 5 at count 100, then 36 that are lost, then type 6 at count 137
abbrev behind : List Fate
behind = kept (made 137 6) ∷ []

stream : List Fate
stream = kept (made 100 5) ∷ lose 101 36 behind

sent : Sends 100 5 stream
unfolding stream Sends
sent = (
  sent_five 100 5 refl,
  rw (real_five 100) (lose_sent 36 101 6 behind (sent_six 137 6 refl, tt)),
)

before : Kept
before = record { bytes = made 100 5; count = 100; serial = 5; lost = 0 }

after : Kept
after = record { bytes = made 137 6; count = 137; serial = 6; lost = 36 }

-- the stream's kept real-time records, its trace, and what is handed out
abbrev left : List Kept
left = real_unspoiled 100 5 stream

abbrev ran : Trace
ran = run fresh lent (fed stream)

abbrev out : List ClosedAccumulation
out = accumulations ran

all_kept : unspoiled 100 5 stream ≡ before ∷ after ∷ []
unfolding stream unspoiled kept_of before after
all_kept = rw (real_five 100, lose_kept)

are_kept : left ≡ before ∷ after ∷ []
unfolding those before after
are_kept = ap reals all_kept ∙ rw (real_five 100, real_six 137)

fed_stream : Stream 100 5 stream lent ran
unfolding stream ExtraRefused trace_of fed
fed_stream = record {
  sent = sent;
  near = unfold before after in rw all_kept (near_two before after (omega arith));
  within = unfold before after Every in subst⁻¹ WithinTurns all_kept (omega arith, (omega arith, tt));
  right = lent_sized;
  refused = rw (lose_fed 36 101 behind) (lose_refused 36 101 behind _ tt);
}

type_before : type_of before ≡ 5
unfolding before
type_before = (five 100).typed

type_after : type_of after ≡ 6
unfolding after
type_after = (six 137).typed

-- 36 are more than may be missing between types 5 and 6
far : Joined before after → ⊥
unfolding before after
far j = omega (arith, type_before, type_after)

-- an accumulation of the one alone hasn't the type of the other
alone : (p f : Kept) (a : ClosedAccumulation) → type_of f < types → (type_of p ≡ type_of f → ⊥) → Filled (p ∷ []) a
    → bit_set a.report.held (type_of f) ≡ true → ⊥
unfolding Every
alone p f a h n q e = true≢false (sym e ∙ (q.others (type_of f) h (n, tt)).unheld)

apart : (rs : List Kept) (os : List ClosedAccumulation) → Pairwise Filled ((before ∷ []) ∷ (after ∷ []) ∷ []) os
    → Every (λ a. Own rs before a → Own rs after a → ⊥) os
unfolding Pairwise Every
apart rs [] h = absurd h
apart rs (a ∷ []) h = absurd h.1
apart rs (a ∷ b ∷ []) h = (
  λ p q. alone before after a (omega (arith, type_after)) (λ e. omega (arith, type_before, type_after)) h.0 q.0,
  (λ p q. alone after before b (omega (arith, type_before)) (λ e. omega (arith, type_before, type_after)) h.1.0 p.0, tt),
)
apart rs (a ∷ b ∷ c ∷ os) h = absurd h.1.1

stands_apart : Every (λ a. Own left before a → Own left after a → ⊥) out
stands_apart =
    let d = demand_3 stream lent 100 5 ran fed_stream (run_allowed (fed stream) fresh lent) in
    ⊎_elim
    (λ (s : Split Joined Parted before after d.parts).
    apart left out (subst (λ (gs : List (List Kept)). Pairwise Filled gs out) s.is d.parts_out))
    (λ (s : Whole Joined Parted before after d.parts). absurd (far s.related))
    (of_two Joined Parted before after d.parts (d.parts_whole ∙ are_kept) d.parts_cut)

neighbours : Neighbours before after left
unfolding Neighbours
neighbours = rw are_kept (inl (refl, refl))

lost_36 : unaccepted (unspoiled 100 5 stream) (at before) (at after) ≡ 36
unfolding before after
lost_36 =
    let l = led stream 100 5 sent in
    real_lost (unspoiled 100 5 stream) l.count l.serial 0 l.chained before after neighbours

pub tight : Tight
tight = record {
  torn_so = record {
    fates = stream;
    count = 100;
    serial = 5;
    lent = lent;
    stream = fed_stream;
    before = before;
    after = after;
    neighbours = neighbours;
    one_round = unfold before after in refl;
    lost = lost_36;
    apart = stands_apart;
  };
  none_below = none_below;
}
