-- The code that hands the parameters after the structs on to the callee, and its steps: the arguments are stored, what is lent anew is, and they are
-- read for the call. The parameters' locals are one entry of the context, and those of what is lent anew another.
-- Assumes nothing.
use mathlib.Core.Path.{refl}
use Prim.Native.Nat.{ℕ, zero, suc}
use mathlib.Core.List.{[], ◌∷◌, ◌++◌, List}
use seplogic.Ra.Ura.{Ura}
use mir.Syntax.{named, Ty, Opd as Operand, Body, copy, place, Local, local, value_local}
use base.Fraction.{full_share}
use base.Fml.{ftrue, fat, fdies}
use prog.Wp.{Env, Calls, Loops}
use types.Logic.{Logic}
use types.Kit.{Goal, Post, allocs, passes, frees, runs, Seq, Step, step, Item, ‵, ◌⊛◌, ◌$◌, move, split, join, drop}
use types.Run.{Opds, init, pass1, pass0, and_then, no_more}
use types.Part.{whole}
use denote.RattleType.{flat}
use denote.Steps.{nothing}
use Rattle.lent.proofs.Locals.{Spots, Fill, env_in, Sits, Goes_on, past, sits, rooms, held, alloc_all, free_all, Inside, left_of, right_of}
use Rattle.lent.proofs.Rest.{More, grow, Has, beyond, own_at, rows, Passed, vals, Known, to}

-- ---- the code. The parameters are named from lifetime i on; local p is the first of them, and t the first that is lent anew
abbrev pub params : List More → ℕ → List Local
params [] i = []
params (m ∷ ms) i = local (m.mir (named i)) value_local ∷ params ms (grow m.lives i)

abbrev pub with_temps : List More → List Local → List Local
with_temps [] ls = ls
with_temps (m ∷ ms) ls = m.anew.temps ++ with_temps ms ls

abbrev pub anew : List More → ℕ → ℕ → Body → Body
anew [] p t rest = rest
anew (m ∷ ms) p t rest = m.anew.code p t (anew ms (suc p) (past m.anew.temps t) rest)

abbrev pub handed : List More → ℕ → ℕ → List Operand
handed [] p t = []
handed (m ∷ ms) p t = copy (place (m.anew.hands p t) []) ∷ handed ms (suc p) (past m.anew.temps t)

abbrev pub past_temps : List More → ℕ → ℕ
past_temps [] t = t
past_temps (m ∷ ms) t = past_temps ms (past m.anew.temps t)

-- ---- the places of what is lent anew
abbrev pub Temps : List More → Type 0
Temps [] = Unit {0}
Temps (m ∷ ms) = Spots m.anew.temps × Temps ms

abbrev pub temps_env : (ms : List More) → Temps ms → List (Ty × ℕ) → List (Ty × ℕ)
temps_env [] ts E = E
temps_env (m ∷ ms) ts E = env_in m.anew.temps ts.0 (temps_env ms ts.1 E)

abbrev pub Stand : List (Ty × ℕ) → ℕ → (ms : List More) → Temps ms → Type 0
Stand E t [] ts = Unit {0}
Stand E t (m ∷ ms) ts = Sits E t m.anew.temps ts.0 × Stand E (past m.anew.temps t) ms ts.1

pub stand : (ms : List More) (ts : Temps ms) (E : List (Ty × ℕ)) (t : ℕ) {E' : List (Ty × ℕ)} → Goes_on E t (temps_env ms ts E')
    → Stand E t ms ts × Goes_on E (past_temps ms t) E'
stand [] ts E t e = (tt, e)
stand (m ∷ ms) ts E t e =
    let s : Sits E t m.anew.temps ts.0 × Goes_on E (past m.anew.temps t) _ = sits m.anew.temps ts.0 E t e in
    let r : Stand E (past m.anew.temps t) ms ts.1 × Goes_on E (past_temps ms (past m.anew.temps t)) _ =
    stand ms ts.1 E (past m.anew.temps t) s.1 in
    ((s.0, r.0), r.1)

-- ---- the parameters' locals in a signature, and the values in them
abbrev pub locals : {ms : List More} → Has ms → List Local
locals {ms} F = params ms F.0.i

abbrev pub cells : {ms : List More} (F : Has ms) → Passed F → Fill (locals F)
cells {ms = []} F a = tt
cells {ms = m ∷ ms} F a = (m.val a.0, cells (beyond F) a.1)

module _ {M : Type 1} (𝓤 : Ura M) where
  abbrev pub empty : (ms : List More) → Temps ms → Item 𝓤
  empty [] ts = ‵ ftrue
  empty (m ∷ ms) ts = rooms 𝓤 m.anew.temps ts.0 ⊛ empty ms ts.1

  abbrev pub full : {ms : List More} (F : Has ms) → Temps ms → Passed F → Item 𝓤
  full {ms = []} F ts a = ‵ ftrue
  full {ms = m ∷ ms} F ts a = held 𝓤 m.anew.temps ts.0 (m.anew.filled a.0) ⊛ full (beyond F) ts.1 a.1

module _ {M : Type 1} {𝓤 : Ura M} {𝓛 : Logic 𝓤} {K : Type 0} where
  open 𝓛 use {H}

  pub alloc_temps : {Γ : List (Item 𝓤)} → K → (ms : List More) (ls : List Local) {Kt : Env 𝓤 H → Goal 𝓤 H}
      → ((ts : Temps ms) → Seq K 𝓛 (empty 𝓤 ms ts ∷ Γ) (allocs ls (λ E. Kt (temps_env ms ts E)))) → Seq K 𝓛 Γ (allocs (with_temps ms ls) Kt)
  alloc_temps k [] ls then = nothing k $ then tt
  alloc_temps {Γ = Γ} k (m ∷ ms) ls then =
      alloc_all k m.anew.temps (with_temps ms ls) (λ bs. alloc_temps {Γ = rooms 𝓤 m.anew.temps bs ∷ Γ} k ms ls (λ ts.
      move k (1 ∷ 0 ∷ []) $ join k $ then (bs, ts)))

  pub free_temps : {Γ : List (Item 𝓤)} {E : Env 𝓤 H} {G : Goal 𝓤 H} → K → {ms : List More} (F : Has ms) (ts : Temps ms) (a : Passed F)
      → Step K 𝓛 Γ (frees E G) (full 𝓤 F ts a ∷ Γ) (frees (temps_env ms ts E) G)
  free_temps k {ms = []} F ts a = drop k
  free_temps k {ms = m ∷ ms} F ts a =
      step (λ s. split k $ free_all k m.anew.temps ts.0 (m.anew.filled a.0) $ free_temps k {ms = ms} (beyond F) ts.1 a.1 $ s)

  -- the arguments are stored
  pub pass_all : {Γ : List (Item 𝓤)} {G : Goal 𝓤 H} → K → (E : Env 𝓤 H) {ms : List More} (F : Has ms) (bs : Spots (locals F)) (a : Passed F) → Known F a
      → Step K 𝓛 (held 𝓤 (locals F) bs (cells F a) ∷ Γ) G
      (rooms 𝓤 (locals F) bs ∷ Γ) (passes (env_in (locals F) bs E) (flat (rows F) (vals F a)) G)
  pass_all k E {ms = []} F bs a are = pass0 k
  pass_all {Γ = Γ} k E {ms = m ∷ ms} F bs a are =
      let τ = m.mir (named F.0.i) in
      step (λ s. split k $ split k $ pass1 k (init k 0 refl (m.typed (named F.0.i) (own_at F) a.0 are.0)) $ move k (2 ∷ []) $
      pass_all {Γ = ‵ (fat full_share τ bs.0 zero (m.val a.0)) ∷ ‵ (fdies τ bs.0) ∷ Γ} k E {ms = ms} (beyond F) bs.1 a.1 are.1 $
      move k (1 ∷ 2 ∷ []) $ join k $ join k $ s)

  -- what is lent anew is
  pub lent_anew : {Γ : List (Item 𝓤)} {E : Env 𝓤 H} {C : Calls 𝓤 H} {Λ : Loops 𝓤 H} {q : Post 𝓤 H} {rest : Body} → K
      → {ms : List More} (F : Has ms) (p t : ℕ)
      (bs : Spots (locals F)) (ts : Temps ms) (a : Passed F) → Known F a → Sits E p (locals F) bs → Stand E t ms ts
      → Step K 𝓛 (held 𝓤 (locals F) bs (cells F a) ∷ full 𝓤 F ts a ∷ Γ) (runs C Λ E rest q)
      (held 𝓤 (locals F) bs (cells F a) ∷ empty 𝓤 ms ts ∷ Γ) (runs C Λ E (anew ms p t rest) q)
  lent_anew k {ms = []} F p t bs ts a are at st = step (λ s. s)
  lent_anew {Γ = Γ} k {ms = m ∷ ms} F p t bs ts a are at st =
      let τ = m.mir (named F.0.i) in
      step (λ s. split k $ split k $ move k (3 ∷ []) $ split k $ move k (2 ∷ 0 ∷ []) $
      m.anew.lent k (named F.0.i) p t bs.0 ts.0 a.0 (m.typed (named F.0.i) (own_at F) a.0 are.0) at.0 st.0 $
      -- [its cell; what it is lent in; the others' empty locals; its death; the others' cells]
      move k (4 ∷ 2 ∷ []) $
      lent_anew {Γ = ‵ (fat full_share τ bs.0 zero (m.val a.0)) ∷ held 𝓤 m.anew.temps ts.0 (m.anew.filled a.0) ∷ ‵ (fdies τ bs.0) ∷ Γ} k {ms = ms}
      (beyond F) (suc p) (past m.anew.temps t) bs.1 ts.1 a.1 are.1 at.1 st.1 $
      move k (3 ∷ 1 ∷ []) $ join k $ move k (2 ∷ 3 ∷ []) $ join k $ move k (0 ∷ 2 ∷ []) $ join k $ s)

  -- they are read for the call, from within whatever entries they are in; to the callee they are what its signature has
  pub hands_on : {Γ : List (Item 𝓤)} {E : Env 𝓤 H} → K → {ms : List More} (F G : Has ms) (p t : ℕ) (bs : Spots (locals F)) (ts : Temps ms) (a : Passed F)
      → Sits E p (locals F) bs → Stand E t ms ts → Inside K 𝓛 Γ (held 𝓤 (locals F) bs (cells F a)) → Inside K 𝓛 Γ (full 𝓤 F ts a)
      → Opds K 𝓛 Γ E (handed ms p t) (flat (rows G) (vals G (to F G a)))
  hands_on k {ms = []} F G p t bs ts a at st in_cells in-temps = no_more k
  hands_on k {ms = m ∷ ms} F G p t bs ts a at st in_cells in-temps =
      and_then k
      (m.anew.handed k (named F.0.i) p t bs.0 ts.0 a.0 at.0 st.0 ((left_of (left_of in_cells)).read (whole k)) (left_of in-temps))
      (hands_on k {ms = ms} (beyond F) (beyond G) (suc p) (past m.anew.temps t) bs.1 ts.1 a.1 at.1 st.1 (right_of in_cells)
      (right_of in-temps))
