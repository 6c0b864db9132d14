-- Structs that are lent, and what a callee hands back of them: any struct of plain data, and any struct of an answer and such structs.
-- Assumes nothing.
use mathlib.Core.Path.{◌≡◌, subst}
use mathlib.Core.Bool.{not}
use Prim.Native.Nat.{ℕ, ◌<◌, ◌^◌}
use mathlib.Core.List.{[], ◌∷◌, List}
use lib.Dec.{T, eqb}
use mir.Syntax.{Sym, Ty, Width}
use mir.Val.{Val, Fits, bits}
use denote.RattleType.{RattleType}
use denote.Laws.{Is}
use denote.Struct.Declared as declared
use denote.Struct.Declared.{Declared}
use denote.Struct.Field.{Field, u8-field}
use denote.Struct.Laws as laws
use denote.Struct.Record as made
use denote.Struct.Struct.{Plains, layout}
use denote.Struct.Values.{Values}

-- a number of a width, as the machine has it
abbrev pub fit : {w : Width} {n : ℕ} → n < 2 ^ bits w → Fits w n
fit h = record { fits = h }

-- a declared struct, with what rattle proves of it
pub record Lent : Type 2 where
  pub type : Declared
  pub the_laws : laws.Laws type
  pub the_copy : laws.Copyables type.parts
  pub the_plain : Plains (declared.fields type)
  pub lowers : laws.Lowered type

abbrev pub row_of : Lent → RattleType
row_of S = declared.row S.type

-- its type as the machine has it, and the machine values of one
abbrev pub mir_of : Lent → Ty
mir_of S = layout (declared.shape S.type)

abbrev pub vals_of : (S : Lent) → S.type.D → List Val
vals_of S = laws.vals S.type S.the_laws

-- what is known of one
abbrev pub Whole : (S : Lent) → S.type.D → Type 0
Whole S d = Is (row_of S) d (vals_of S d)

abbrev pub fields_of : List Lent → List Field
fields_of [] = []
fields_of (S ∷ Ss) = declared.field S.type ∷ fields_of Ss

-- a struct of an answer and of structs, which stand behind the pointers after a call
pub record Outcome (Ss : List Lent) : Type 2 where
  pub name : Sym
  pub D : Type 0
  pub values : D → Values (u8-field ∷ fields_of Ss)
  pub make : Values (u8-field ∷ fields_of Ss) → D
  pub eta : (d : D) → make (values d) ≡ d
  pub beta : (v : Values (u8-field ∷ fields_of Ss)) → values (make v) ≡ v
  pub one : (v : Values (u8-field ∷ fields_of Ss)) → IsProp made.Done

abbrev pub type_of : {Ss : List Lent} → Outcome Ss → Declared
type_of {Ss} o =
    made.declared
    (record {
      name = o.name;
      args = [];
      types = [];
      parts = u8-field ∷ fields_of Ss;
      D = o.D;
      as_values = o.values;
      Ghost = λ v. made.Done;
      ghosts = λ d. tt;
      make = λ v g. o.make v;
      eta = o.eta;
      beta = λ v g. o.beta v;
    })
    o.one

abbrev pub out_row : {Ss : List Lent} → Outcome Ss → RattleType
out_row o = declared.row (type_of o)

abbrev pub out_mir : {Ss : List Lent} → Outcome Ss → Ty
out_mir o = layout (declared.shape (type_of o))

abbrev lawss_of : (Ss : List Lent) → laws.Lawss (fields_of Ss)
lawss_of [] = tt
lawss_of (S ∷ Ss) = (laws.field_laws S.type S.the_laws S.lowers, lawss_of Ss)

abbrev pub outcome_laws : {Ss : List Lent} (o : Outcome Ss) → laws.Laws (type_of o)
outcome_laws {Ss} o = (laws.u8-laws, lawss_of Ss)

-- an answer that the test for 0 found not to be it
pub off_0 : {n : ℕ} → T (not (eqb n 0)) → n ≡ 0 → ⊥
off_0 {n} h e = subst (λ (k : ℕ). T (not (eqb k 0))) e h
