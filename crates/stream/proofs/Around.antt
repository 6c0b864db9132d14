-- Streams that go round, by example.
-- Assumes nothing.
use mathlib.Core.Path.{◌≡◌, refl, ap, subst, subst⁻¹, ◌∙◌}
use mathlib.Core.List.{List, [], ◌∷◌}
use mathlib.Core.Logic.{⊎_elim}
use Prim.Native.Nat.{ℕ}
use native.Mathlib.Omega.{arith}
use lib.ListN.{length}
use Rattle.prelude.specs.Every.{Every}
use Rattle.state.specs.Soundness.{fresh}
use Rattle.gathering.specs.Lists.{Pairwise, those}
use Rattle.stream.specs.Running.{run, trace_of, ClosedAccumulation, accumulations}
use Rattle.stream.specs.Sending.{Fate, kept, removed, Sends, fed, ExtraRefused, Kept, kept_of, reals}
use Rattle.stream.specs.Sending.{unspoiled, real_unspoiled, WithinTurns, Stream}
use Rattle.stream.specs.Cutting.{Joined, Parted}
use Rattle.stream.specs.Filling.{Filled, first_count}
use Rattle.stream.specs.Around.{HandsOut, Around}
use Rattle.stream.proofs.Runs.{run_allowed}
use Rattle.stream.proofs.Demand.{demand_3}
use Rattle.stream.proofs.Pairs.{Split, Whole, of_two, of_one, near_one, near_two}
use Rattle.stream.proofs.Made.{lent, lent_sized, made, five, six, real_five, real_six, sent_five, sent_six}

-- type 5 at the last count of a turn, type 6 at the first of the next
abbrev last : ℕ
last = 16777215

abbrev restart : ℕ
restart = 16777216

both : List Fate
both = kept (made last 5) ∷ kept (made restart 6) ∷ []

second : List Fate
second = removed (made last 5) ∷ kept (made restart 6) ∷ []

-- one accumulation, of these records
only : (fates : List Fate) (g : List Kept) → Stream last 5 fates lent (run fresh lent (fed fates))
    → Pairwise Filled (g ∷ []) (accumulations (run fresh lent (fed fates))) → HandsOut fates (first_count g) (length g)
unfolding Pairwise
only fates g w h = go (accumulations (run fresh lent (fed fates))) refl h
  where
    go : (os : List ClosedAccumulation) → accumulations (run fresh lent (fed fates)) ≡ os → Pairwise Filled (g ∷ []) os
        → HandsOut fates (first_count g) (length g)
    go [] e h = absurd h
    go (a ∷ []) e h =
        record { count = last; serial = 5; lent = lent; stream = w; one = a; alone = e; first_is = h.0.first; frames_are = h.0.frames }
    go (a ∷ b ∷ os) e h = absurd h.1

-- the two records, both kept
p : Kept
p = record { bytes = made last 5; count = last; serial = 5; lost = 0 }

f : Kept
f = record { bytes = made restart 6; count = restart; serial = 6; lost = 0 }

both_left : unspoiled last 5 both ≡ p ∷ f ∷ []
unfolding both unspoiled kept_of p f
both_left = rw (real_five last)

both_real : real_unspoiled last 5 both ≡ p ∷ f ∷ []
unfolding those p f
both_real = ap reals both_left ∙ rw (real_five last, real_six restart)

both_stream : Stream last 5 both lent (run fresh lent (fed both))
unfolding both Sends fed ExtraRefused trace_of
both_stream = record {
  sent = (sent_five last 5 refl, (rw (real_five last) (sent_six restart 6 refl), tt));
  near = unfold p f in rw both_left (near_two p f (omega arith));
  within = unfold p f Every in subst⁻¹ WithinTurns both_left (omega arith, (omega arith, tt));
  right = lent_sized;
  refused = tt;
}

-- no count is lost between the two records
parted_not : Parted p f → ⊥
unfolding p f
parted_not q = omega (arith, q refl)

both_out : HandsOut both 16777215 2
unfolding p
both_out =
    let d = demand_3 both lent last 5 (run fresh lent (fed both)) both_stream (run_allowed (fed both) fresh lent) in
    let os = accumulations (run fresh lent (fed both)) in
    let whole : d.parts ≡ (p ∷ f ∷ []) ∷ [] =
    ⊎_elim (λ (s : Split Joined Parted p f d.parts). absurd (parted_not s.related)) (λ (s : Whole Joined Parted p f d.parts). s.is)
    (of_two Joined Parted p f d.parts (d.parts_whole ∙ both_real) d.parts_cut) in
    only both (p ∷ f ∷ []) both_stream (subst (λ (gs : List (List Kept)). Pairwise Filled gs os) whole d.parts_out)

-- the first lost: what is left begins in turn 0
z : Kept
z = record { bytes = made restart 6; count = 0; serial = 6; lost = 0 }

second_left : unspoiled last 5 second ≡ z ∷ []
unfolding second unspoiled kept_of z
second_left = rw (real_five last)

second_real : real_unspoiled last 5 second ≡ z ∷ []
unfolding those z
second_real = ap reals second_left ∙ rw (real_six restart)

second_stream : Stream last 5 second lent (run fresh lent (fed second))
unfolding second Sends fed ExtraRefused trace_of
second_stream = record {
  sent = (sent_five last 5 refl, (rw (real_five last) (sent_six restart 6 refl), tt));
  near = rw second_left (near_one z);
  within = unfold z Every in subst⁻¹ WithinTurns second_left (omega arith, tt);
  right = lent_sized;
  refused = tt;
}

second_out : HandsOut second 0 1
unfolding z
second_out =
    let d = demand_3 second lent last 5 (run fresh lent (fed second)) second_stream (run_allowed (fed second) fresh lent) in
    let os = accumulations (run fresh lent (fed second)) in
    let whole = of_one Joined Parted z d.parts (d.parts_whole ∙ second_real) d.parts_cut in
    only second (z ∷ []) second_stream (subst (λ (gs : List (List Kept)). Pairwise Filled gs os) whole d.parts_out)

pub around : Around
around = record {
  before = made last 5;
  after = made restart 6;
  last = (five last).counted;
  restart = (six restart).counted;
  joined = unfold both in both_out;
  begun = unfold second in second_out;
}
