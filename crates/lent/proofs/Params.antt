-- The parameters that exports have after the structs: a slice to write, a slice to read, a number, and a place for an answer.
-- Assumes nothing.
use mathlib.Core.Path.{refl}
use Prim.Native.Nat.{ℕ, suc}
use mathlib.Core.Bool.{true, false}
use mathlib.Core.List.{[], ◌∷◌, ◌++◌, List}
use lib.ListN.{length}
use mir.Syntax.{Lifetime, erased, mut, imm, w64, Ty, ty_int, ty_ref, place, copy, deref, field, addr_of, aggregate, seq, assign, local, value_local}
use mir.Val.{Val, vint, vptr}
use types.Kit.{◌$◌, step, move, split, join}
use types.Run.{look, init, stop, hop, fld, load, addr, and_then, no_more, assigns}
use types.Part.{agg, whole, sub, look_in}
use denote.RattleType.{RattleType}
use denote.Memory.{pointee}
use denote.Plain.{uint_Tells}
use denote.Builtin.{u8, i16, usize}
use denote.Ref.{Bor, MutBor, MutRef, ShrRef, mut_Tells, shr_Tells}
use denote.Slice.{MutSlice, ShrSlice, slice_ty, slice_val, mut_slice_Tells, shr_slice_Tells}
use Rattle.lent.proofs.Structs.{fit}
use Rattle.lent.proofs.Locals.{from_at, left_of, right_of}
use Rattle.lent.proofs.Rest.{Anew, More}

abbrev as_it_is : (D : Type 0) (τ : Lifetime → Ty) (val : D → Val) → Anew D τ val
as_it_is D τ val = record {
  temps = [];
  filled = λ x. tt;
  code = λ p t rest. rest;
  hands = λ p t. p;
  lent = λ k ℓ p t b ts x typed e sits. step (λ s. s);
  handed = λ k ℓ p t b ts x e sits cell inside. load k (from_at k e (stop k)) cell;
}

abbrev anew_place : (X : Type 0) (τ : Ty) → Anew (MutBor X) (λ ℓ. ty_ref ℓ mut τ) (λ x. vptr x.ref_ptr.0 x.ref_ptr.1)
anew_place X τ = record {
  temps = local (ty_ref erased mut τ) value_local ∷ [];
  filled = λ x. (vptr x.ref_ptr.0 x.ref_ptr.1, tt);
  code = λ p t rest. seq (assign (place t []) (addr_of (place p (deref τ ∷ [])))) rest;
  hands = λ p t. t;
  lent = λ k ℓ p t b ts x typed e sits. step (λ s.
      move k (1 ∷ []) $ split k $ split k $
      -- [the local's room and death; nothing; the parameter's cell]
      assigns k (addr k (from_at k e (hop k (look k 3 refl) (stop k)))) (from_at k sits.0 (stop k)) (init k 0 refl (tt, tt)) $
      join k $ join k $ move k (1 ∷ 0 ∷ []) $ s);
  handed = λ k ℓ p t b ts x e sits cell inside. load k (from_at k sits.0 (stop k)) ((left_of (left_of inside)).read (whole k));
}

abbrev anew_slice : (X : Type 0) (τ : Ty) → Anew (MutBor (List X)) (λ ℓ. slice_ty (ty_ref ℓ mut τ)) (λ x. slice_val x.ref_ptr (length x.now))
anew_slice X τ = record {
  temps = local (ty_ref erased mut τ) value_local ∷ local (slice_ty (ty_ref erased mut τ)) value_local ∷ [];
  filled = λ x. (vptr x.ref_ptr.0 x.ref_ptr.1, (slice_val x.ref_ptr (length x.now), tt));
  code = λ p t rest.
      seq (assign (place t []) (addr_of (place p (field 0 ∷ deref τ ∷ []))))
      (seq (assign (place (suc t) []) (aggregate (copy (place t []) ∷ copy (place p (field 1 ∷ [])) ∷ []))) rest);
  hands = λ p t. suc t;
  lent = λ k ℓ p t b ts x typed e sits. step (λ s.
      move k (1 ∷ []) $ split k $ split k $ move k (2 ∷ []) $ split k $ split k $
      -- [the second local's room and death; nothing; the first one's; the parameter's cell]
      assigns k (addr k (from_at k e (fld k refl (hop k (look_in k 5 (sub k 0 refl (whole k))) (stop k)))))
      (from_at k sits.0 (stop k)) (init k 3 refl (tt, tt)) $
      assigns k (agg k (and_then k (load k (from_at k sits.0 (stop k)) (look k 3 refl))
      (and_then k (load k (from_at k e (fld k refl (stop k))) (look_in k 5 (sub k 1 refl (whole k)))) (no_more k)))) (from_at k sits.1.0 (stop k))
      (init k 0 refl (tt, typed.1)) $
      join k $ join k $ move k (1 ∷ 2 ∷ []) $ join k $ join k $ move k (1 ∷ 0 ∷ []) $ s);
  handed = λ k ℓ p t b ts x e sits cell inside.
      load k (from_at k sits.1.0 (stop k)) ((left_of (left_of (right_of inside))).read (whole k));
}

-- `&mut [R]`
abbrev pub writes : RattleType → More
writes R = record {
  lives = true;
  D = MutBor (List R.Denot);
  mir = λ ℓ. slice_ty (ty_ref ℓ mut (pointee R.written));
  reaches = (MutSlice erased [] R).reaches;
  names = λ κ. (MutSlice erased κ R).lives;
  own = λ κ. (MutSlice erased κ R).own_val;
  shr_at = λ κ. (MutSlice erased κ R).shr_at;
  lasting = λ κ b. (MutSlice erased κ R).exit (λ _. b);
  coded = (MutSlice erased [] R).coded;
  val = λ x. slice_val x.ref_ptr (length x.now);
  tells = λ κ. mut_slice_Tells erased κ R;
  typed = λ ℓ κ x p. (tt, (tt, (fit p.0.1.0, tt)));
  anew = anew_slice R.Denot (pointee R.written);
  View = List R.Denot;
  seen = λ x. x.now;
  last = λ κ y. y.now;
  moved = λ κ κ' x z. z;
  moved_seen = λ κ κ' x z. refl;
  moved_left = λ κ x z. refl;
}

-- `&[R]`
abbrev pub reads : RattleType → More
reads R = record {
  lives = true;
  D = Bor (List R.Denot);
  mir = λ ℓ. slice_ty (ty_ref ℓ imm (pointee R.written));
  reaches = (ShrSlice erased [] R).reaches;
  names = λ κ. (ShrSlice erased κ R).lives;
  own = λ κ. (ShrSlice erased κ R).own_val;
  shr_at = λ κ. (ShrSlice erased κ R).shr_at;
  lasting = λ κ b. (ShrSlice erased κ R).exit (λ _. b);
  coded = (ShrSlice erased [] R).coded;
  val = λ x. slice_val x.ref_ptr (length x.now);
  tells = λ κ. shr_slice_Tells erased κ R;
  typed = λ ℓ κ x p. (tt, (tt, (fit p.0.1.0, tt)));
  anew = as_it_is _ _ _;
  View = List R.Denot;
  seen = λ x. x.now;
  last = λ κ y. y.now;
  moved = λ κ κ' x z. z;
  moved_seen = λ κ κ' x z. refl;
  moved_left = λ κ x z. refl;
}

-- a `usize`
abbrev pub number : More
number = record {
  lives = false;
  D = ℕ;
  mir = λ ℓ. ty_int w64;
  reaches = [];
  names = λ κ. usize.lives;
  own = λ κ. usize.own_val;
  shr_at = λ κ. usize.shr_at;
  lasting = λ κ b. usize.exit (λ _. b);
  coded = usize.coded;
  val = λ x. vint w64 x;
  tells = λ κ. uint_Tells w64;
  typed = λ ℓ κ x p. (tt, fit p.1);
  anew = as_it_is _ _ _;
  View = ℕ;
  seen = λ x. x;
  last = λ κ y. y;
  moved = λ κ κ' x z. z;
  moved_seen = λ κ κ' x z. refl;
  moved_left = λ κ x z. refl;
}

-- `&mut E`
abbrev pub fills : RattleType → More
fills E = record {
  lives = true;
  D = MutBor E.Denot;
  mir = λ ℓ. ty_ref ℓ mut (pointee E.written);
  reaches = (MutRef erased [] E).reaches;
  names = λ κ. (MutRef erased κ E).lives;
  own = λ κ. (MutRef erased κ E).own_val;
  shr_at = λ κ. (MutRef erased κ E).shr_at;
  lasting = λ κ b. (MutRef erased κ E).exit (λ _. b);
  coded = (MutRef erased [] E).coded;
  val = λ x. vptr x.ref_ptr.0 x.ref_ptr.1;
  tells = λ κ. mut_Tells erased κ E;
  typed = λ ℓ κ x p. (tt, tt);
  anew = anew_place E.Denot (pointee E.written);
  View = E.Denot;
  seen = λ x. x.now;
  last = λ κ y. y.now;
  moved = λ κ κ' x z. z;
  moved_seen = λ κ κ' x z. refl;
  moved_left = λ κ x z. refl;
}

-- `&E`
abbrev pub shown : RattleType → More
shown E = record {
  lives = true;
  D = Bor E.Denot;
  mir = λ ℓ. ty_ref ℓ imm (pointee E.written);
  reaches = (ShrRef erased [] E).reaches;
  names = λ κ. (ShrRef erased κ E).lives;
  own = λ κ. (ShrRef erased κ E).own_val;
  shr_at = λ κ. (ShrRef erased κ E).shr_at;
  lasting = λ κ b. (ShrRef erased κ E).exit (λ _. b);
  coded = (ShrRef erased [] E).coded;
  val = λ x. vptr x.ref_ptr.0 x.ref_ptr.1;
  tells = λ κ. shr_Tells erased κ E;
  typed = λ ℓ κ x p. (tt, tt);
  anew = as_it_is _ _ _;
  View = E.Denot;
  seen = λ x. x.now;
  last = λ κ y. y.now;
  moved = λ κ κ' x z. z;
  moved_seen = λ κ κ' x z. refl;
  moved_left = λ κ x z. refl;
}

-- the buffers of a reader: open and finished cells, open and finished samples, the open snapshot and the two finished ones; and a record or bytes after them
abbrev pub buffers_alone : List More
buffers_alone = writes u8 ∷ writes u8 ∷ writes i16 ∷ writes i16 ∷ writes u8 ∷ writes u8 ∷ writes u8 ∷ []

abbrev pub buffers_and_bytes : List More
buffers_and_bytes = buffers_alone ++ (reads u8 ∷ [])

abbrev pub bytes_alone : List More
bytes_alone = reads u8 ∷ []

-- a number, or samples and two numbers, and a place for the answer
abbrev pub number_and_answer : RattleType → List More
number_and_answer E = number ∷ fills E ∷ []

abbrev pub samples_and_answer : RattleType → List More
samples_and_answer E = reads i16 ∷ number ∷ number ∷ fills E ∷ []
