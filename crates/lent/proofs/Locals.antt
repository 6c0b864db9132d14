-- Some of a function's locals, whichever they are, as one entry of the context: allocated, full or empty, freed, and found in the environment.
-- Assumes nothing.
use mathlib.Core.Path.{◌≡◌, refl, sym, ap, subst}
use Prim.Native.Nat.{ℕ, zero, suc}
use mathlib.Core.List.{[], ◌∷◌, ◌++◌, List}
use seplogic.Ra.Ura.{Ura}
use base.Fraction.{full_share}
use lib.ListN.{get_or}
use mir.Syntax.{Ty, ty_enum, ttnil, Step as PStep, place, Local, local}
use mir.Val.{Val}
use base.Logic.{ent, SProp, wand, all, id⊢, comm∗, all_e, apply∗}
use base.Fml.{Share, ftrue, froom, fdies, fat}
use prog.Wp.{Env, Spot, walk}
use types.Logic.{Logic}
use types.Kit.{Goal, allocs, frees, Seq, Step, step, Item, ‵, raw, ◌⊛◌, mean, ⋆, nth, ◌$◌, ◌∵◌, !, qed, move, split, join, drop, use1, use2, frame}
use types.Kit.{each, assume, done}
use types.Run.{Walks, Finds, Reads, forget, alloc1, free1}
use types.Part.{Part, look_in}
use denote.Steps.{nothing}

-- a place for each
abbrev pub Spots : List Local → Type 0
Spots [] = Unit {0}
Spots (l ∷ ls) = ℕ × Spots ls

-- a value for each
abbrev pub Fill : List Local → Type 0
Fill [] = Unit {0}
Fill (l ∷ ls) = Val × Fill ls

abbrev pub env_in : (ls : List Local) → Spots ls → List (Ty × ℕ) → List (Ty × ℕ)
env_in [] bs E = E
env_in (local τ h ∷ ls) bs E = (τ, bs.0) ∷ env_in ls bs.1 E

-- they stand in the environment from number n on
abbrev pub At : List (Ty × ℕ) → ℕ → Ty → ℕ → Type 0
At E n τ b = get_or E n (ty_enum [] ttnil, zero) ≡ (τ, b)

abbrev pub Sits : List (Ty × ℕ) → ℕ → (ls : List Local) → Spots ls → Type 0
Sits E n [] bs = Unit {0}
Sits E n (local τ h ∷ ls) bs = At E n τ bs.0 × Sits E (suc n) ls bs.1

-- what an environment has from number n on
abbrev from : ℕ → List (Ty × ℕ) → List (Ty × ℕ)
from zero E = E
from (suc n) [] = []
from (suc n) (e ∷ E) = from n E

abbrev pub Goes_on : List (Ty × ℕ) → ℕ → List (Ty × ℕ) → Type 0
Goes_on E n E' = from n E ≡ E'

abbrev pub past : List Local → ℕ → ℕ
past [] n = n
past (l ∷ ls) n = past ls (suc n)

pub here : (E : List (Ty × ℕ)) (n : ℕ) {τ : Ty} {b : ℕ} {E' : List (Ty × ℕ)} → Goes_on E n ((τ, b) ∷ E') → At E n τ b
here E zero e = ap (λ (X : List (Ty × ℕ)). get_or X zero (ty_enum [] ttnil, zero)) e
here [] (suc n) e = ap (λ (X : List (Ty × ℕ)). get_or X zero (ty_enum [] ttnil, zero)) e
here (x ∷ E) (suc n) e = here E n e

pub next : (E : List (Ty × ℕ)) (n : ℕ) {x : Ty × ℕ} {E' : List (Ty × ℕ)} → Goes_on E n (x ∷ E') → Goes_on E (suc n) E'
next [] zero e = ap (from 1) e
next (x ∷ E) zero e = ap (from 1) e
next [] (suc n) e = ap (from 1) e
next (x ∷ E) (suc n) e = next E n e

pub sits : (ls : List Local) (bs : Spots ls) (E : List (Ty × ℕ)) (n : ℕ) {E' : List (Ty × ℕ)} → Goes_on E n (env_in ls bs E')
    → Sits E n ls bs × Goes_on E (past ls n) E'
sits [] bs E n e = (tt, e)
sits (local τ h ∷ ls) bs E n e =
    let r : Sits E (suc n) ls bs.1 × Goes_on E (past ls (suc n)) _ = sits ls bs.1 E (suc n) (next E n e) in
    ((here E n e, r.0), r.1)

module _ {M : Type 1} (𝓤 : Ura M) where
  -- empty, and with values in them
  abbrev pub rooms : (ls : List Local) → Spots ls → Item 𝓤
  rooms [] bs = ‵ ftrue
  rooms (local τ h ∷ ls) bs = (‵ (froom τ bs.0 zero) ⊛ ‵ (fdies τ bs.0)) ⊛ rooms ls bs.1

  abbrev pub held : (ls : List Local) → Spots ls → Fill ls → Item 𝓤
  held [] bs vs = ‵ ftrue
  held (local τ h ∷ ls) bs vs = (‵ (fat full_share τ bs.0 zero vs.0) ⊛ ‵ (fdies τ bs.0)) ⊛ held ls bs.1 vs.1

-- what is within an entry can be read
pub record Inside {M : Type 1} {𝓤 : Ura M} (K : Type 0) (𝓛 : Logic 𝓤) (Γ : List (Item 𝓤)) (i : Item 𝓤) : Type 2 where
  pub read : {q : Share} {τ : Ty} {b o : ℕ} {v : Val} {back : Val → Item 𝓤} → Part K 𝓛 i q τ b o v back → Reads K 𝓛 Γ τ b o v

module _ {M : Type 1} {𝓤 : Ura M} {𝓛 : Logic 𝓤} {K : Type 0} where
  open 𝓛 use {H}

  pub alloc_all : {Γ : List (Item 𝓤)} → K → (ls ls' : List Local) {Kt : Env 𝓤 H → Goal 𝓤 H}
      → ((bs : Spots ls) → Seq K 𝓛 (rooms 𝓤 ls bs ∷ Γ) (allocs ls' (λ E. Kt (env_in ls bs E)))) → Seq K 𝓛 Γ (allocs (ls ++ ls') Kt)
  alloc_all t [] ls' k = nothing t $ k tt
  alloc_all {Γ = Γ} t (local τ h ∷ ls) ls' k =
      alloc1 t (λ b. alloc_all {Γ = ‵ (froom τ b 0) ∷ ‵ (fdies τ b) ∷ Γ} t ls ls' (λ bs. move t (1 ∷ 2 ∷ []) $ join t $ join t $ k (b, bs)))

  -- freed, whatever they hold
  pub gone : {Γ : List (Item 𝓤)} {E : Env 𝓤 H} {G : Goal 𝓤 H} → K → {τ : Ty} {b : ℕ} {v : Val}
      → Step K 𝓛 Γ (frees E G) (‵ (fat full_share τ b zero v) ∷ ‵ (fdies τ b) ∷ Γ) (frees ((τ, b) ∷ E) G)
  gone t = step (λ s. forget t 0 refl $ free1 t $ s)

  pub free_all : {Γ : List (Item 𝓤)} {E : Env 𝓤 H} {G : Goal 𝓤 H} → K → (ls : List Local) (bs : Spots ls) (vs : Fill ls)
      → Step K 𝓛 Γ (frees E G) (held 𝓤 ls bs vs ∷ Γ) (frees (env_in ls bs E) G)
  free_all t [] bs vs = drop t
  free_all t (local τ h ∷ ls) bs vs = step (λ s. split t $ split t $ gone t $ free_all t ls bs.1 vs.1 $ s)

  -- a cell within a part of an entry is within the entry
  module _ {i : Item 𝓤} {q : Share} {τ : Ty} {b o : ℕ} {v : Val} {back : Val → Item 𝓤} (j : Item 𝓤) (p : Part K 𝓛 i q τ b o v back) where
    abbrev Back : Val → SProp 𝓤
    Back u = mean 𝓛 (back u)

    within : (f : Item 𝓤 → Item 𝓤) → ((k : Item 𝓤) → ent 𝓤 (mean 𝓛 (f k)) (mean 𝓛 (k ⊛ j)))
        → ((k : Item 𝓤) → ent 𝓤 (mean 𝓛 (k ⊛ j)) (mean 𝓛 (f k))) → Part K 𝓛 (f i) q τ b o v (λ u. f (back u))
    within f out in' = record {
      out =
          qed 𝓛 (f i ∷ []) ∵ use1 𝓛 (i ⊛ j) (out i) $ split ! $
          use1 𝓛 (‵ (fat q τ b o v) ⊛ raw (all 𝓤 (λ (u : Val). wand 𝓤 (H.at q τ b o u) (Back u)))) p.out $ split ! $ frame ! $
          each ! (λ (u : Val). wand 𝓤 (H.at q τ b o u) (mean 𝓛 (f (back u))))
          (λ u. assume {P = mean 𝓛 (f (back u))} ! (‵ (fat q τ b o u)) $ move ! (1 ∷ []) $
          use1 𝓛 (raw (wand 𝓤 (H.at q τ b o u) (Back u))) (all_e 𝓤 (λ (w : Val). wand 𝓤 (H.at q τ b o w) (Back w)) u) $
          move ! (1 ∷ 0 ∷ []) $ use2 𝓛 (back u) (apply∗ 𝓤 (H.at q τ b o u) (Back u)) $ use2 𝓛 (f (back u)) (in' (back u)) $ done !);
      same = ap f p.same;
    }

    pub in_left : Part K 𝓛 (i ⊛ j) q τ b o v (λ u. back u ⊛ j)
    in_left = within (λ k. k ⊛ j) (λ k. id⊢ 𝓤 _) (λ k. id⊢ 𝓤 _)

    pub in_right : Part K 𝓛 (j ⊛ i) q τ b o v (λ u. j ⊛ back u)
    in_right = within (λ k. j ⊛ k) (λ k. comm∗ 𝓤 (mean 𝓛 j) (mean 𝓛 k)) (λ k. comm∗ 𝓤 (mean 𝓛 k) (mean 𝓛 j))

  module _ {Γ : List (Item 𝓤)} where
    -- a local that is known to stand at a number
    pub from_at : K → {E : Env 𝓤 H} {n : ℕ} {τ : Ty} {b : ℕ} {st : List PStep} {sp : Spot 𝓤 H} → At E n τ b → Walks K 𝓛 Γ E (τ, b, zero) st sp
        → Finds K 𝓛 Γ E (place n st) sp
    from_at t {E} {st = st} e w = record {
      go = λ Kt h. subst (λ (x : Ty × ℕ). ent 𝓤 (⋆ 𝓛 Γ) (walk 𝓤 H E (x.0, x.1, zero) st Kt)) (sym e) (w.go Kt h);
    }

    pub inside : K → (n : ℕ) → Inside K 𝓛 Γ (nth 𝓛 n Γ)
    inside t n = record { read = λ p. look_in t n p }

    -- so can what is within a part of it
    pub left_of : {i j : Item 𝓤} → Inside K 𝓛 Γ (i ⊛ j) → Inside K 𝓛 Γ i
    left_of {j = j} inside = record { read = λ p. inside.read (in_left j p) }

    pub right_of : {i j : Item 𝓤} → Inside K 𝓛 Γ (i ⊛ j) → Inside K 𝓛 Γ j
    right_of {i} inside = record { read = λ p. inside.read (in_right i p) }
