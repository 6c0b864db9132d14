-- The state list is kept by step and finish.
-- Assumes nothing.
use mathlib.Core.Path.{◌≡◌, subst⁻¹}
use mathlib.Core.Bool.{Bool, true, false, cond, ◌&&◌}
use Prim.Native.Nat.{◌<◌}
use native.Mathlib.Omega.{arith}
use lib.Dec.{eqb}
use borrow.Author.Tests.{eqb-true, eqb-false}
use Rattle.clock.specs.Clock.{full_counts, unset, is_later, has_turn, clock_sound}
use Rattle.prelude.proofs.Conds.{cases}
use Rattle.clock.specs.declared.Clock.{Clock}
use Rattle.clock.proofs.Laws.{dated_above, dated_below, accepted_sound, unset_sound, unset_is}
use Rattle.accumulation.specs.Accumulation.{no_accumulation}
use Rattle.accumulation.specs.declared.Accumulation.{Accumulation}
use Rattle.accumulation.proofs.Keeping as accumulation
use Rattle.major.specs.Major.{no_major}
use Rattle.major.specs.declared.Major.{Major}
use Rattle.major.proofs.Keeping as major
use Rattle.snapshot.specs.Snapshot.{no_snapshot}
use Rattle.snapshot.specs.declared.Snapshot.{Snapshot}
use Rattle.snapshot.proofs.Keeping as snapshot
use Rattle.state.specs.Soundness.{fresh, sound}
use Rattle.state.specs.Deciding.{Input, fields_of, count_at, mag_range, clock_holds, turn_holds, number_of, acceptance}
use Rattle.state.specs.Ending.{ending, unended, ended_of}
use Rattle.state.specs.Keeping.{Sound, StepKeeps, EndKeeps}
use Rattle.state.specs.declared.State.{State}
use Rattle.state.proofs.Facts.{SoundParts, facts, is_sound}
use Rattle.state.proofs.Decisions.{accepted_is, refused_is}
use Rattle.state.proofs.Told.{Passed, all_pass, science_type}

-- nothing open passes with every clock that passes
abbrev nothing_open : Clock → State
nothing_open c = record { clock = c; accumulation = no_accumulation; major = no_major; snapshot = no_snapshot }

none_sound : (c : Clock) → clock_sound c ≡ true → Sound (nothing_open c)
none_sound c e = record {
  passes = is_sound (nothing_open c) (record {
    clock = e;
    accumulation = accumulation.none_sound c;
    major = major.none_sound c;
    snapshot = snapshot.none_sound c;
  });
  shaped = major.shaped_none;
}

-- the fresh state passes the list
pub fresh_sound : Sound fresh
fresh_sound = none_sound unset unset_sound

later_so : (i : Input) → clock_holds i ≡ true → is_later i.state.clock (fields_of i) ≡ true
unfolding clock_holds
later_so i e = e

turn_so : (i : Input) → turn_holds i ≡ true → has_turn i.state.clock (fields_of i) ≡ true
unfolding turn_holds
turn_so i e = e

-- an accepted record
module _ (i : Input) (kept : Sound i.state) (p : Passed i) where
  known : SoundParts i.state
  known = facts i.state kept.passes

  above : i.state.clock.any ≡ true → i.state.clock.last < count_at i
  above = dated_above i.state.clock (fields_of i) (later_so i p.later)

  small : count_at i < full_counts
  small = dated_below i.state.clock (fields_of i) (turn_so i p.turn)

  acceptance_sound : Sound (acceptance i.state (fields_of i) (count_at i) (mag_range i)).stepped.state
  unfolding acceptance
  acceptance_sound =
      let c = i.state.clock in
      let m = i.state.major in
      record {
        passes = is_sound _ (record {
          clock = accepted_sound (count_at i) small;
          accumulation =
              accumulation.step_sound c i.state.accumulation _ _ (count_at i) known.accumulation (science_type i.bytes) above small;
          major = major.step_sound c m (count_at i) _ (mag_range i) (fields_of i).subcom known.major kept.shaped above (omega arith);
          snapshot = snapshot.step_sound c i.state.snapshot (count_at i) _ _ known.snapshot above;
        });
        shaped = major.step_shaped c m (count_at i) _ (mag_range i) (fields_of i).subcom known.major kept.shaped above (omega arith);
      }

-- every state that step hands back from one that passes, passes
pub step_sound : (i : Input) → StepKeeps i
step_sound i kept =
    cases (eqb (number_of i) 0)
    (λ t.
    let e = eqb-true (number_of i) 0 t in
    subst⁻¹ (λ x. Sound x.stepped.state) (accepted_is i e) (acceptance_sound i kept (all_pass i e)))
    (λ t. subst⁻¹ (λ x. Sound x.stepped.state) (refused_is i (eqb-false (number_of i) 0 t)) kept)

pub ended_sound : (s : State) → Sound s → Sound (ending s).finished.state
ended_sound s kept = none_sound s.clock (facts s kept.passes).clock

-- every state that finish hands back from one that passes, passes
pub end_sound : (s : State) (sized : Bool) → EndKeeps s sized
unfolding ended_of
end_sound s sized kept = go (sized && sound s)
  where
    go : (t : Bool) → Sound (cond t (ending s) (unended s)).finished.state
    go true = ended_sound s kept
    go false = kept

all_none : (c : Clock) (a : Accumulation) (m : Major) (s : Snapshot) → c ≡ unset → a ≡ no_accumulation → m ≡ no_major → s ≡ no_snapshot
    → ◌≡◌ {A = State} (record { clock = c; accumulation = a; major = m; snapshot = s }) fresh
all_none c a m s p q r t = cc

-- "Until something is accepted, all is 0."
pub unstarted : (s : State) → Sound s → s.clock.any ≡ false → s ≡ fresh
unstarted s kept a =
    let f = facts s kept.passes in
    all_none s.clock s.accumulation s.major s.snapshot (unset_is s.clock f.clock a)
    (accumulation.unstarted s.clock s.accumulation f.accumulation a)
    (major.unstarted s.clock s.major f.major kept.shaped a)
    (snapshot.unstarted s.clock s.snapshot f.snapshot a)
