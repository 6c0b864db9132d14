-- States and C's structs: one struct for each state, and all 0 is the fresh one.
-- Assumes nothing.
use mathlib.Core.Path.{◌≡◌, refl, sym}
use mathlib.Core.List.{List, [], ◌∷◌}
use mathlib.Core.Bool.{Bool, true, false, cond, ◌&&◌}
use Prim.Native.Nat.{ℕ, zero, suc, ◌≤◌}
use native.Mathlib.Omega.{arith}
use lib.Dec.{eqb, leb}
use borrow.Author.Tests.{eqb-true, leb-true}
use Rattle.prelude.proofs.Conds.{two}
use Rattle.std.specs.Prelude.{Ok, Err}
use Rattle.record.specs.declared.refusal.Refusal.{Refusal}
use Rattle.record.specs.declared.refusal.Refusal.TheVariants.{BufferOrState}
use Rattle.state.specs.Soundness.{fresh}
use Rattle.state.specs.declared.State.{State}
use Rattle.shapes.specs.Frames.{flag}
use Rattle.shapes.specs.States.{is_state, state_in, state_of, state_out}
use Rattle.shapes.specs.declared.states.CState.{CState}

flag_back : (b : Bool) → eqb (flag b) 1 ≡ b
flag_back true = refl
flag_back false = refl

-- what is handed out is a state, and the one that it was made of
pub out_is : (s : State) → is_state (state_out s) ≡ true
unfolding is_state
out_is s = go s.clock.any s.snapshot.cut
  where
    go : (a b : Bool) → (leb (flag a) 1 && (leb (flag b) 1 && true)) ≡ true
    go true true = refl
    go true false = refl
    go false true = refl
    go false false = refl

pub in_of_out : (s : State) → state_in (state_out s) ≡ s
in_of_out s = λ i. record {
  clock = record { any = flag_back s.clock.any i; last = s.clock.last };
  accumulation = s.accumulation;
  major = s.major;
  snapshot =
      record { first = s.snapshot.first; held = s.snapshot.held; last_type = s.snapshot.last_type; cut = flag_back s.snapshot.cut i };
}

-- each state is of one struct: one that is a state is what is handed out of it, byte for byte
zero_if : (n : ℕ) → eqb n 0 ≡ true → 0 ≡ n
zero_if n e = sym (eqb-true n 0 e)

flag_of : (n : ℕ) → n ≤ 1 → flag (eqb n 1) ≡ n
flag_of zero h = refl
flag_of (suc zero) h = refl
flag_of (suc (suc n)) h = absurd (omega arith)

pub out_of_in : (c : CState) → is_state c ≡ true → state_out (state_in c) ≡ c
unfolding is_state
out_of_in c e =
    let a = c.accumulation in
    let o = c.snapshot in
    let e₁ = two _ _ e in
    let e₂ = two _ _ e₁.1 in
    let e₃ = two _ _ e₂.1 in
    let e₄ = two _ _ e₃.1 in
    let e₅ = two _ _ e₄.1 in
    let e₆ = two _ _ e₅.1 in
    let e₇ = two _ _ e₆.1 in
    let e₈ = two _ _ e₇.1 in
    let e₉ = two _ _ e₈.1 in
    λ i. record {
      last = c.last;
      any = flag_of c.any (leb-true c.any 1 e₁.0) i;
      spare8 = zero_if c.spare8 e₂.0 i;
      spare16 = zero_if c.spare16 e₃.0 i;
      spare32 = zero_if c.spare32 e₄.0 i;
      accumulation = record {
        first = a.first;
        held = a.held;
        last_count = a.last_count;
        others = a.others;
        last_type = a.last_type;
        spare8 = zero_if a.spare8 e₅.0 i;
        spare16 = zero_if a.spare16 e₆.0 i;
        spare32 = zero_if a.spare32 e₇.0 i;
      };
      major = record {
        number = c.major.number;
        words = c.major.words;
        ranges = c.major.ranges;
        slots = c.major.slots;
        mag_slots = c.major.mag_slots;
        spare32 = zero_if c.major.spare32 e₈.0 i;
      };
      snapshot = record {
        first = o.first;
        held = o.held;
        last_type = o.last_type;
        cut = flag_of o.cut (leb-true o.cut 1 e₉.0) i;
        spare16 = zero_if o.spare16 e₉.1 i;
      };
    }

-- all 0 is the fresh state
abbrev sixteen : List ℕ
sixteen = 0 ∷ 0 ∷ 0 ∷ 0 ∷ 0 ∷ 0 ∷ 0 ∷ 0 ∷ 0 ∷ 0 ∷ 0 ∷ 0 ∷ 0 ∷ 0 ∷ 0 ∷ 0 ∷ []

abbrev zeros : CState
zeros = record {
  last = 0;
  any = 0;
  spare8 = 0;
  spare16 = 0;
  spare32 = 0;
  accumulation = record { first = 0; held = 0; last_count = 0; others = 0; last_type = 0; spare8 = 0; spare16 = 0; spare32 = 0 };
  major = record { number = 0; words = sixteen; ranges = sixteen; slots = 0; mag_slots = 0; spare32 = 0 };
  snapshot = record { first = 0; held = 0; last_type = 0; cut = 0; spare16 = 0 };
}

pub fresh_out : state_out fresh ≡ zeros
fresh_out = refl

pub fresh_in : state_in zeros ≡ fresh
fresh_in = refl

-- what is known of the state of a struct that stands for one, and of a struct that stands for none
module _ (c : CState) where
  pub state_told : (s : State) → state_of c ≡ Ok s → (is_state c ≡ true) × (s ≡ state_in c)
  unfolding state_of
  state_told s e = go (is_state c) refl e
    where
      go : (b : Bool) → b ≡ is_state c → cond b (Ok (state_in c)) (Err BufferOrState) ≡ Ok s → (is_state c ≡ true) × (s ≡ state_in c)
      go true q h = (sym q, cc)
      go false q h = absurd (cc)

  pub none_told : (e : Refusal) → state_of c ≡ Err e → is_state c ≡ false
  unfolding state_of
  none_told e h = go (is_state c) refl h
    where
      go : (b : Bool) → b ≡ is_state c → cond b (Ok (state_in c)) (Err BufferOrState) ≡ Err e → is_state c ≡ false
      go true q h = absurd (cc)
      go false q h = sym q
