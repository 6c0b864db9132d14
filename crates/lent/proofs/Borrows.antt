-- A struct behind a pointer: what is had of one behind a `&mut`, which is opened, with its machine values written out, and closed at another value;
-- one step each of a walk.
-- Assumes nothing.
use mathlib.Core.Path.{refl}
use mathlib.Core.List.{[], ◌∷◌, List}
use seplogic.Ra.Ura.{Ura}
use base.Fraction.{full_share}
use mir.Val.{Val}
use base.Stored.{Gv}
use base.Fml.{Lft, Share, Fml, feq, fsep, flft, fobs, fauth, fbor, fobor}
use types.Logic.{Logic}
use types.Kit.{Goal, Soaks, Step, step, Seq, Item, ‵, ◌$◌, move, feq_i, fjoin3}
use types.SemTy.{Body}
use denote.Laws.{Is, shows}
use denote.Memory.{cell_at, mem}
use denote.Ref.{MutBor, mut_vals}
use denote.Steps.{opens, closes, owned, facts}
use denote.Struct.Steps.{spelt}
use denote.Struct.Laws as laws
use Rattle.lent.proofs.Structs.{Lent, Whole, row_of, vals_of}

module _ (S : Lent) (p : MutBor S.type.D) where
  abbrev pub obs : S.type.D → Fml
  obs d = fobs p.ghost_name ((row_of S).coded.code d)

  abbrev borrow : Lft → Fml
  borrow κ = fbor κ (Body (mem (row_of S)) p.ref_ptr.0 p.ref_ptr.1 p.ghost_name)

  -- the pointer at its last value, and the token of its lifetime
  abbrev pub behind : {M : Type 1} {𝓤 : Ura M} → Lft → Share → S.type.D → List (Item 𝓤) → List (Item 𝓤)
  behind κ q d Γ = ‵ (obs d) ∷ ‵ (borrow κ) ∷ ‵ (flft κ q) ∷ Γ

  abbrev cell : S.type.D → Fml
  cell d = cell_at full_share (row_of S).mir (vals_of S d) p.ref_ptr.0 p.ref_ptr.1

  abbrev open_borrow : Lft → Share → Fml
  open_borrow κ q = fobor κ q (Body (mem (row_of S)) p.ref_ptr.0 p.ref_ptr.1 p.ghost_name)

  module _ {M : Type 1} {𝓤 : Ura M} {𝓛 : Logic 𝓤} {K : Type 0} {Γ : List (Item 𝓤)} {G : Goal 𝓤 𝓛.H} {κ : Lft} where
    pub opened : {q : Share} (d : S.type.D) → K → Soaks G → (Whole S d → Seq K 𝓛 (‵ (cell d) ∷ ‵ (open_borrow κ q) ∷ ‵ (obs d)
        ∷ ‵ (fauth p.ghost_name ((row_of S).coded.code d)) ∷ Γ) G) → Seq K 𝓛 (behind κ q d Γ) G
    opened d t z then =
        opens t z (row_of S) {h = d} p.ref_ptr.0 p.ref_ptr.1
        (λ vs. spelt t (row_of S) (Is (row_of S)) (shows 𝓛 (row_of S)) (vals_of S) (laws.tells S.type S.the_laws) full_share d vs
        p.ref_ptr.0 p.ref_ptr.1 $ move t (1 ∷ []) $ facts t (row_of S) (Is (row_of S)) (shows 𝓛 (row_of S)) d (vals_of S d) then)

    pub shut : {q : Share} (d : S.type.D) → K → Soaks G → {u v : Gv} → Whole S d
        → Step K 𝓛 (behind κ q d Γ) G (‵ (cell d) ∷ ‵ (open_borrow κ q) ∷ ‵ (fobs p.ghost_name u) ∷ ‵ (fauth p.ghost_name v) ∷ Γ) G
    shut d t z known =
        step
        (λ s. owned t (row_of S) (Is (row_of S)) (laws.makes S.type S.the_plain 𝓛) d (vals_of S d) known $
        move t (1 ∷ 0 ∷ []) $ closes t z (row_of S) d (vals_of S d) p.ref_ptr.0 p.ref_ptr.1 $ s)

    -- what the type of the pointer owns
    pub again : {o : Fml} → K → Step K 𝓛 (‵ (fsep (feq (List Val) (mut_vals p) (mut_vals p)) (fsep o (borrow κ))) ∷ Γ) G (‵ o ∷ ‵ (borrow κ) ∷ Γ) G
    again t = step (λ s. feq_i t (List Val) (mut_vals p) (mut_vals p) refl $ fjoin3 t $ s)

-- a struct by value owns nothing but what is known of it
pub made : {M : Type 1} {𝓤 : Ura M} {𝓛 : Logic 𝓤} {K : Type 0} {Γ : List (Item 𝓤)} {G : Goal 𝓤 𝓛.H} → K
    → (S : Lent) (d : S.type.D)
    → Whole S d → Step K 𝓛 (‵ ((row_of S).own_val d (vals_of S d)) ∷ Γ) G Γ G
made {𝓤 = 𝓤} {𝓛} t S d known = owned t (row_of S) (Is (row_of S)) (laws.makes S.type S.the_plain 𝓛) d _ known
