-- The parameters of an export after the structs: what a walk has to know of one, and of a list of them. The export names the lifetimes of the list
-- from some number on, and its callee names them from 0 on. Nothing else differs in the two signatures, so values, what they own and what is said of
-- them pass from one to the other.
-- Assumes nothing.
use mathlib.Core.Path.{◌≡◌, refl, sym, ap, subst, ◌∙◌}
use Prim.Native.Nat.{ℕ, zero, suc}
use mathlib.Core.Bool.{Bool, true, false}
use mathlib.Core.List.{[], ◌∷◌, List}
use seplogic.Ra.Ura.{Ura}
use base.Fraction.{full_share}
use lib.Dec.{T}
use mir.Syntax.{Lifetime, named, Ty, Written, wrote, Local, Body, copy, place}
use mir.Val.{Val, has_ty, WT}
use base.Logic.{ent, id⊢, mono∗}
use base.Stored.{Coded}
use base.Fml.{Lft, Fml, fat}
use prog.Wp.{Env, Calls, Loops}
use types.Logic.{Logic, sem}
use contract.Lifetimes.{Lfts}
use types.Kit.{Item, ‵, Step, Post, runs}
use types.Run.{Opd, Reads}
use denote.Exit.{Exit, Last, Seen, see, yes, left}
use denote.RattleType.{RattleType, Denots, Valss, owns}
use denote.Laws.{Ises, Are, Spells, valss, Tellss}
use denote.Shadow.{shadow}
use denote.Signature.{Slot, plain, types_at}
use denote.Triple.End.{Kepts, all, Fins, Outs, outs, lasts_of}
use denote.Triple.Walked.{Stays, fits_of, has_of, AllGo}
use Rattle.lent.proofs.Locals.{Spots, Fill, At, Sits, rooms, held, Inside}

-- how a parameter, local p, is handed on: as it is, or lent anew in locals of its own, t and those after it, of which one is handed on
pub record Anew (D : Type 0) (τ : Lifetime → Ty) (val : D → Val) : Type 3 where
  pub temps : List Local
  pub filled : D → Fill temps
  pub code : ℕ → ℕ → Body → Body
  pub hands : ℕ → ℕ → ℕ
  pub lent : {M : Type 1} {𝓤 : Ura M} {𝓛 : Logic 𝓤} {K : Type 0} {Γ : List (Item 𝓤)} {E : Env 𝓤 𝓛.H}
      {C : Calls 𝓤 𝓛.H} {Λ : Loops 𝓤 𝓛.H} {q : Post 𝓤 𝓛.H} {rest : Body} → K → (ℓ : Lifetime) (p t b : ℕ) (ts : Spots temps) (x : D)
      → T (has_ty (τ ℓ) (val x)) × WT (val x) → At E p (τ ℓ) b → Sits E t temps ts
      → Step K 𝓛 (‵ (fat full_share (τ ℓ) b 0 (val x)) ∷ held 𝓤 temps ts (filled x) ∷ Γ) (runs C Λ E rest q)
      (‵ (fat full_share (τ ℓ) b 0 (val x)) ∷ rooms 𝓤 temps ts ∷ Γ) (runs C Λ E (code p t rest) q)
  pub handed : {M : Type 1} {𝓤 : Ura M} {𝓛 : Logic 𝓤} {K : Type 0} {Γ : List (Item 𝓤)} {E : Env 𝓤 𝓛.H} → K
      → (ℓ : Lifetime) (p t b : ℕ) (ts : Spots temps) (x : D) → At E p (τ ℓ) b → Sits E t temps ts → Reads K 𝓛 Γ (τ ℓ) b 0 (val x)
      → Inside K 𝓛 Γ (held 𝓤 temps ts (filled x)) → Opd K 𝓛 Γ E (copy (place (hands p t) [])) (val x)

-- a parameter of one machine value: its type at a lifetime, if it has one, and as what a clause sees it, handed in and at the end.
-- `names` is the lifetimes that a value names, `shr_at` what a `&` to one holds
pub record More : Type 3 where
  pub lives : Bool
  pub D : Type 0
  pub mir : Lifetime → Ty
  pub reaches : List (Written × List Ty)
  pub names : Lft → Lft
  pub own : Lft → D → List Val → Fml
  pub shr_at : Lft → D → ℕ → ℕ → Lft → Fml
  pub lasting : Lft → Bool → Exit D
  pub coded : Coded D
  pub val : D → Val
  pub tells : (κ : Lft) (x : D) (vs : List Val) → shadow (own κ x vs) → vs ≡ val x ∷ []
  pub typed : (ℓ : Lifetime) (κ : Lft) (x : D) → shadow (own κ x (val x ∷ [])) → T (has_ty (mir ℓ) (val x)) × WT (val x)
  pub anew : Anew D mir val
  pub View : Type 0
  pub seen : D → View
  pub last : (κ : Lft) → Seen (lasting κ true) → View
  -- what is bound for it at the end is the same at whichever lifetime it stands, and seen alike
  pub moved : (κ κ' : Lft) (x : D) → Last (lasting κ true) x → Last (lasting κ' true) x
  pub moved_seen : (κ κ' : Lft) (x : D) (z : Last (lasting κ true) x)
      → last κ' (see (lasting κ' true) x (moved κ κ' x z)) ≡ last κ (see (lasting κ true) x z)
  pub moved_left : (κ : Lft) (x : D) (z : Last (lasting κ true) x) → left (lasting κ true) x (moved κ κ x z) ≡ left (lasting κ true) x z

abbrev row_at : More → Lifetime → Lft → RattleType
row_at m ℓ κ = record {
  Denot = m.D;
  mir = m.mir ℓ ∷ [];
  written = wrote (m.mir ℓ);
  reaches = m.reaches;
  lives = m.names κ;
  own_val = m.own κ;
  exit = λ k. m.lasting κ (k ℓ);
  coded = m.coded;
  shr_at = m.shr_at κ;
}

-- ---- the lifetimes of a list
abbrev pub grow : Bool → ℕ → ℕ
grow true n = suc n
grow false n = n

abbrev pub count : List More → ℕ
count [] = zero
count (m ∷ ms) = grow m.lives (count ms)

abbrev mine : (b : Bool) (n : ℕ) → Lfts (grow b n) → Lft
mine true n κs = κs.0
mine false n κs = []

abbrev theirs : (b : Bool) (n : ℕ) → Lfts (grow b n) → Lfts n
theirs true n κs = κs.1
theirs false n κs = κs

-- a signature has the list: it has n lifetimes, the list's are among them, and are named from i on
pub record Named (ms : List More) : Type 0 where
  pub n : ℕ
  pub at : Lfts n → Lfts (count ms)
  pub i : ℕ

abbrev pub then : {m : More} {ms : List More} → Named (m ∷ ms) → Named ms
then {m} {ms} F = record { n = F.n; at = λ κs. theirs m.lives (count ms) (F.at κs); i = grow m.lives F.i }

abbrev pub slots : {ms : List More} (F : Named ms) → List (Slot F.n)
slots {ms = []} F = []
slots {ms = m ∷ ms} F = plain (λ κs. row_at m (named F.i) (mine m.lives (count ms) (F.at κs))) ∷ slots (then F)

abbrev pub kepts : {ms : List More} (F : Named ms) → Kepts (slots F)
kepts F = all yes (slots F)

-- the same at the lifetimes that a caller chose
abbrev pub Has : List More → Type 0
Has ms = (F : Named ms) × Lfts F.n

abbrev pub beyond : {m : More} {ms : List More} → Has (m ∷ ms) → Has ms
beyond F = (then F.0, F.1)

abbrev pub own_at : {m : More} {ms : List More} → Has (m ∷ ms) → Lft
own_at {m} {ms} F = mine m.lives (count ms) (F.0.at F.1)

abbrev pub rows : {ms : List More} → Has ms → List RattleType
rows F = types_at {n = F.0.n} (slots F.0) F.1

abbrev pub Passed : {ms : List More} → Has ms → Type 0
Passed F = Denots (rows F)

abbrev pub spells : {ms : List More} (F : Has ms) → Spells (rows F)
spells {ms = []} F = tt
spells {ms = m ∷ ms} F = ((λ x. m.val x ∷ []), spells (beyond F))

pub tellss : {ms : List More} (F : Has ms) → Tellss (rows F) (Ises (rows F)) (spells F)
tellss {ms = []} F = tt
tellss {ms = m ∷ ms} F = (m.tells (own_at F), tellss (beyond F))

-- the machine values, and what is known of them
abbrev pub vals : {ms : List More} (F : Has ms) → Passed F → Valss (rows F)
vals F a = valss (rows F) (spells F) a

abbrev pub Known : {ms : List More} (F : Has ms) → Passed F → Type 0
Known F a = Are (rows F) (Ises (rows F)) a (vals F a)

-- ---- as what a clause sees them, handed in and at the end
abbrev pub Views : List More → Type 0
Views [] = Unit {0}
Views (m ∷ ms) = m.View × Views ms

abbrev pub Left : {ms : List More} → Has ms → Type 0
Left F = Outs {n = F.0.n} F.1 (slots F.0) (kepts F.0)

abbrev pub ins : {ms : List More} (F : Has ms) → Passed F → Views ms
ins {ms = []} F a = tt
ins {ms = m ∷ ms} F a = (m.seen a.0, ins (beyond F) a.1)

abbrev pub ends : {ms : List More} (F : Has ms) → Left F → Views ms
ends {ms = []} F e = tt
ends {ms = m ∷ ms} F e = (m.last (own_at F) e.0, ends (beyond F) e.1)

-- ---- from one signature to another
abbrev pub Lasting : {ms : List More} (F : Has ms) → Passed F → Type 0
Lasting F a = Fins {n = F.0.n} F.1 (slots F.0) (kepts F.0) a

abbrev pub lefts : {ms : List More} (F : Has ms) (a : Passed F) → Lasting F a → Left F
lefts F a z = outs {n = F.0.n} F.1 (slots F.0) (kepts F.0) a z

abbrev pub to : {ms : List More} (F G : Has ms) → Passed F → Passed G
to {ms = []} F G a = tt
to {ms = m ∷ ms} F G a = (a.0, to (beyond F) (beyond G) a.1)

abbrev pub back : {ms : List More} (F G : Has ms) (a : Passed F) → Lasting G (to F G a) → Lasting F a
back {ms = []} F G a z = tt
back {ms = m ∷ ms} F G a z = (m.moved (own_at G) (own_at F) a.0 z.0, back (beyond F) (beyond G) a.1 z.1)

same_ins : {ms : List More} (F G : Has ms) (a : Passed F) → ins G (to F G a) ≡ ins F a
same_ins {ms = []} F G a = refl
same_ins {ms = m ∷ ms} F G a = ap (λ (v : Views ms). (m.seen a.0, v)) (same_ins (beyond F) (beyond G) a.1)

same_ends : {ms : List More} (F G : Has ms) (a : Passed F) (z : Lasting G (to F G a)) → ends G (lefts G (to F G a) z) ≡ ends F (lefts F a (back F G a z))
same_ends {ms = []} F G a z = refl
same_ends {ms = m ∷ ms} F G a z =
    let e : m.View = m.last (own_at G) (see (m.lasting (own_at G) true) a.0 z.0) in
    ap (λ (v : Views ms). (e, v)) (same_ends (beyond F) (beyond G) a.1 z.1)
    ∙ ap (λ (u : m.View). (u, ends (beyond F) (lefts (beyond F) a.1 (back (beyond F) (beyond G) a.1 z.1))))
    (sym (m.moved_seen (own_at G) (own_at F) a.0 z.0))

pub same_said : {ms : List More} (F G : Has ms) (P : Views ms → Views ms → Type 0) (a : Passed F) (z : Lasting G (to F G a))
    → P (ins G (to F G a)) (ends G (lefts G (to F G a) z)) → P (ins F a) (ends F (lefts F a (back F G a z)))
same_said {ms} F G P a z h =
    subst (λ (v : Views ms). P v (ends F (lefts F a (back F G a z)))) (same_ins F G a)
    (subst (λ (v : Views ms). P (ins G (to F G a)) v) (same_ends F G a z) h)

-- ---- they are given up for good: what is had of them at the end is what the callee says of their last values
abbrev gaves : {n : ℕ} (ss : List (Slot n)) → Stays ss (all yes ss)
gaves [] = tt
gaves (s ∷ ss) = (record { fit = λ κs x f. Unit {0}; has = λ κs x f vs. left ((s.row κs).exit yes) x f }, gaves ss)

abbrev pub given : {ms : List More} (F : Named ms) → Stays (slots F) (kepts F)
given F = gaves (slots F)

pub fits : {ms : List More} (F : Has ms) (a : Passed F) (ws : Lasting F a) → fits_of {n = F.0.n} F.1 (slots F.0) (kepts F.0) (given F.0) a ws
fits {ms = []} F a ws = tt
fits {ms = m ∷ ms} F a ws = (tt, fits (beyond F) a.1 ws.1)

abbrev pub lasting : {ms : List More} (F : Has ms) (a : Passed F) → Lasting F a → Fml
lasting F a z = lasts_of {n = F.0.n} F.1 (slots F.0) (kepts F.0) a z

abbrev pub had : {ms : List More} (F : Has ms) (a : Passed F) → Lasting F a → Fml
had F a z = has_of {n = F.0.n} F.1 (slots F.0) (kepts F.0) (given F.0) a z (vals F a)

module _ {M : Type 1} {𝓤 : Ura M} (𝓛 : Logic 𝓤) where
  pub go_on : {ms : List More} (F : Named ms) → AllGo 𝓛 F.n (slots F) (kepts F) (given F)
  go_on {ms = []} F = tt
  go_on {ms = m ∷ ms} F = ((λ κs x f vs ok. 𝓛.laws.⇛_intro _), go_on (then F))

  pub owns_to : {ms : List More} (F G : Has ms) → F.0.at F.1 ≡ G.0.at G.1 → (a : Passed F)
      → ent 𝓤 (sem 𝓛 (owns (rows F) a (vals F a))) (sem 𝓛 (owns (rows G) (to F G a) (vals G (to F G a))))
  owns_to {ms = []} F G e a = id⊢ 𝓤 _
  owns_to {ms = m ∷ ms} F G e a =
      mono∗ 𝓤
      (subst
      (λ (κs : Lfts (count (m ∷ ms))).
      ent 𝓤 (sem 𝓛 (m.own (own_at F) a.0 (m.val a.0 ∷ []))) (sem 𝓛 (m.own (mine m.lives (count ms) κs) a.0 (m.val a.0 ∷ [])))) e
      (id⊢ 𝓤 _))
      (owns_to (beyond F) (beyond G) (ap (theirs m.lives (count ms)) e) a.1)

  pub lasts_back : {ms : List More} (F G : Has ms) → F.0.at F.1 ≡ G.0.at G.1 → (a : Passed F) (z : Lasting G (to F G a))
      → ent 𝓤 (sem 𝓛 (lasting G (to F G a) z)) (sem 𝓛 (had F a (back F G a z)))
  lasts_back {ms = []} F G e a z = id⊢ 𝓤 _
  lasts_back {ms = m ∷ ms} F G e a z =
      let κ = own_at G in
      let L : Fml = left (m.lasting κ true) a.0 z.0 in
      mono∗ 𝓤
      (subst
      (λ (κs : Lfts (count (m ∷ ms))).
      ent 𝓤 (sem 𝓛 L) (sem 𝓛 (left (m.lasting (mine m.lives (count ms) κs) true) a.0 (m.moved κ (mine m.lives (count ms) κs) a.0 z.0)))) (sym e)
      (subst (λ (P : Fml). ent 𝓤 (sem 𝓛 L) (sem 𝓛 P)) (sym (m.moved_left κ a.0 z.0)) (id⊢ 𝓤 (sem 𝓛 L))))
      (lasts_back (beyond F) (beyond G) (ap (theirs m.lives (count ms)) e) a.1 z.1)
