-- What the walks of all shapes have in common: clauses that say one thing at the end, what a call of g gives back, and the way from a walk to a contract.
-- Assumes nothing.
use Rattle.lent.proofs.Locals.{past}
use Rattle.lent.proofs.Rest.{More, count, Named, slots}
use Rattle.lent.proofs.Handing.{params}
use Rattle.lent.proofs.Kit.{◌++◌, Statements, Local, local, value_local, w8, ty_int, place, copy, field, rv_opd, op2, eq, int, cond, skip, seq, assign}
use Rattle.lent.proofs.Kit.{return, ℕ, ◌∷◌, [], List, Ura, Fn, Val, ent, emp, via, fst∗, id⊢, WpFn, Tables, Lfts, Shares, fact, Goal}
use Rattle.lent.proofs.Kit.{Soaks, Seq, Item, ‵, raw, some, later, ◌⊛◌, ◌$◌, move, use1, split, pick, await, WpFn-mono, flat, Are, Ises}
use Rattle.lent.proofs.Kit.{Spells, valss, Tellss, RattleType, Slot, plain, all, yes, Contract, type_at, types_at, heard, Args, Res, AtExit, at_exit}
use Rattle.lent.proofs.Kit.{alive, on_entry, Meets, triple_of, Ended, Clauses, closing, Lasts, ensured, lasts, Stays, walk_of, AllGo, AllOutlive, walked}
use Rattle.lent.proofs.Kit.{walk_Meets, Bound}
use package.types.Logic.{Logic}

-- parameters in a signature that has their lifetimes alone
abbrev pub alone : (ms : List More) → Named ms
alone ms = record { n = count ms; at = λ κs. κs; i = 0 }

-- something is known from here on
pub knowing : {M : Type 1} {𝓤 : Ura M} {𝓛 : Logic 𝓤} {K : Type 0} {Γ : List (Item 𝓤)} {G : Goal 𝓤 𝓛.H} → K → {X : Type 0} → X
    → (X → Seq K 𝓛 Γ G) → Seq K 𝓛 Γ G
knowing t x then = then x

abbrev by_value : {n : ℕ} → List RattleType → List (Slot n) → List (Slot n)
by_value [] ss = ss
by_value (R ∷ Rs) ss = plain (λ _. R) ∷ by_value Rs ss

-- what takes some things by value, and then the parameters: the callee, and with nothing by value the export
abbrev pub called : List More → List RattleType → RattleType → Ended
called ms Rs R = record {
  signature = record { lifetimes = count ms; outlives = []; params = by_value Rs (slots (alone ms)); result = plain (λ _. R) };
  kept = all yes (by_value Rs (slots (alone ms)));
}

-- a function that answers with a byte, and has these parameters and these locals after them
abbrev pub function : List More → List Local → Statements → Fn
function ms ls b = record {
  lifetimes = count ms;
  ty_params = [];
  givens = 0;
  outlives = [];
  params = past (params ms 0) 0;
  locals = local (ty_int w8) value_local ∷ (params ms 0 ++ ls);
  body = b;
}

-- what came back is in the local out: its number is the answer, and where that is 0 it is stored
abbrev pub answers : ℕ → Statements
answers out = seq (assign (place 0 []) (rv_opd (copy (place out (field 0 ∷ []))))) return

abbrev pub tested : ℕ → ℕ → Statements → Statements
tested out test b =
    seq (assign (place test []) (op2 eq (copy (place out (field 0 ∷ []))) (int w8 0))) (seq (cond (copy (place test [])) b skip) (answers out))

module _ (T : Ended) where
  abbrev pub Lives : Type 0
  Lives = Lfts T.signature.lifetimes

  abbrev pub types : Lives → List RattleType
  types κs = types_at T.signature.params κs

  abbrev pub Telling : Type 1
  Telling = (κs : Lives) → Args T.signature κs → Res T.signature κs → AtExit T κs → Type 0

  abbrev pub telling : {M : Type 1} (𝓤 : Ura M) → Telling → Clauses 𝓤 T
  telling 𝓤 φ κs a = record { ghost = Unit {0}; requires = λ _. emp 𝓤; ensures = λ _ r end. fact 𝓤 (φ κs a r end) }

  module _ {M : Type 1} {𝓤 : Ura M} (𝓛 : Logic 𝓤) (φ : Telling) where
    open 𝓛 use {H}

    abbrev pub contract : Contract 𝓤
    contract = triple_of 𝓛 T.signature (closing 𝓛 T (telling 𝓤 φ))

    abbrev pub Met : Tables 𝓤 H → Fn → Type 1
    Met 𝓣 f = Meets 𝓛 T.signature (WpFn 𝓤 H 𝓣.C 𝓣.Λ f) (closing 𝓛 T (telling 𝓤 φ))

  module _ {M : Type 1} {𝓤 : Ura M} {𝓛 : Logic 𝓤} {K : Type 0} {Γ : List (Item 𝓤)} {G : Goal 𝓤 𝓛.H} where
    -- g has answered w: what is said of the last values, what its answer owns, and the tokens
    pub answered : K → Soaks G → (φ : Telling) (x : Bound 𝓛 T.signature) (w : Val)
        → ((r : Res T.signature x.0) (zs : Lasts T x.0 x.3) → φ x.0 x.3 r (at_exit T x.0 x.3 zs)
        → Seq K 𝓛 (‵ (lasts T x.0 x.3 zs) ∷ ‵ ((type_at T.signature.result x.0).own_val r (w ∷ []))
        ∷ raw (alive 𝓛 T.signature x.0 x.1) ∷ Γ) G)
        → Seq K 𝓛 (raw ((contract 𝓛 φ).post (x, tt) w) ∷ Γ) G
    answered t z φ x w then =
        use1 𝓛 (later (some (λ (r : Res T.signature x.0).
        (raw (alive 𝓛 T.signature x.0 x.1) ⊛ ‵ ((type_at T.signature.result x.0).own_val r (w ∷ [])))
        ⊛ raw (ensured 𝓛 T (telling 𝓤 φ) x.0 x.3 tt r)))) (id⊢ 𝓤 _) $
        await t z $ pick t (λ r. split t $ split t $ move t (2 ∷ []) $
        use1 𝓛 (some (λ (zs : Lasts T x.0 x.3). ‵ (lasts T x.0 x.3 zs) ⊛ raw (fact 𝓤 (φ x.0 x.3 r (at_exit T x.0 x.3 zs)))))
        (id⊢ 𝓤 _) $ pick t (λ zs. split t $ move t (1 ∷ []) $ heard t _ (λ e. move t (0 ∷ 2 ∷ []) $ then r zs e)))

  -- a walk of f, with the parameters' machine values written out, is a proof that f meets its contract
  pub by_walk : {M : Type 1} {𝓤 : Ura M} (𝓛 : Logic 𝓤) (φ : Telling) (𝓣 : Tables 𝓤 𝓛.H) (f : Fn)
      (hs : Stays T.signature.params T.kept) → AllGo 𝓛 T.signature.lifetimes T.signature.params T.kept hs
      → (sp : (κs : Lives) → Spells (types κs)) → ((κs : Lives) → Tellss (types κs) (Ises (types κs)) (sp κs))
      → ((κs : Lives) (qs : Shares T.signature.lifetimes) (bounds : AllOutlive T.signature.lifetimes T.signature.outlives κs)
      (a : Args T.signature κs) → Are (types κs) (Ises (types κs)) a (valss (types κs) (sp κs) a)
      → ent 𝓤 (on_entry 𝓛 T.signature κs qs a (valss (types κs) (sp κs) a)) (WpFn 𝓤 𝓛.H 𝓣.C 𝓣.Λ f (flat (types κs) (valss (types κs) (sp κs) a))
      ((walk_of 𝓛 T hs (telling 𝓤 φ)).post ((κs, qs, bounds, a, valss (types κs) (sp κs) a), tt))))
      → Met 𝓛 φ 𝓣 f
  by_walk {𝓤 = 𝓤} 𝓛 φ 𝓣 f hs go sp tl walk =
      walk_Meets 𝓛 T hs go (telling 𝓤 φ) (WpFn 𝓤 𝓛.H 𝓣.C 𝓣.Λ f) (WpFn-mono 𝓤 𝓛.H 𝓛.laws 𝓣 f)
      (walked 𝓛 T hs (telling 𝓤 φ) (WpFn 𝓤 𝓛.H 𝓣.C 𝓣.Λ f) sp tl
      (λ κs qs bounds a _ are. via 𝓤 _ (fst∗ 𝓤 _ (emp 𝓤)) (walk κs qs bounds a are)))
