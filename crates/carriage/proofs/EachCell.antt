-- One computed test over the table: 83 cells a type, each of 2,988 cells once; and the code finds the type of each.
-- Assumes nothing.
use mathlib.Core.Path.{◌≡◌, refl, sym, ap, subst, ◌∙◌}
use mathlib.Core.Bool.{Bool, true, false, false≢true}
use mathlib.Core.List.{[]}
use Prim.Native.Nat.{ℕ, ◌+◌, ◌*◌, ◌-◌, ◌%◌, ◌/◌, ◌<◌, ◌≤◌}
use native.Mathlib.Omega.{arith}
use lib.Dec.{T, eqb, ltb, eqb→eq, ltb→lt}
use lib.ListN.{length}
use borrow.Author.Tests.{eq-eqb, ne_eqb, ltb-true, ltb-false}
use Rattle.prelude.proofs.Conds.{cases}
use Rattle.prelude.specs.Upto.{both, upto}
use Rattle.prelude.proofs.Upto.{both_left, both_right, upto_at}
use Rattle.carriage.specs.Carriage.{samples_in, types, science_size, cells, three_d, rows, total_size, some_has, byte_in}
use Rattle.carriage.specs.Carriage.{place, carrier, byte_of, Once, row_of, runs_of, carries, none}
use Rattle.carriage.specs.Inner.Carriers.{rest_size, rest_cell}
use Rattle.carriage.proofs.Placed.{place_had, had_place, first_is, first_none}
use Rattle.carriage.proofs.Finding.{sample_in, in_half, rest_type, type_of, in_header, in_samples, in_three}

-- the science byte of a type that goes to cell p
abbrev byte_for : ℕ → ℕ → ℕ
byte_for t p = byte_in (runs_of (row_of t)) p

-- byte k of type t goes to one of the cells, and that cell is asked back to type t and byte k
there : ℕ → ℕ → Bool
there t k = both (ltb (place t k) cells) (both (eqb (type_of (place t k)) t) (eqb (byte_for t (place t k)) k))

-- cell p is a byte of its type
back : ℕ → Bool
back p = both (ltb (type_of p) types) (both (ltb (byte_for (type_of p) p) science_size) (eqb (place (type_of p) (byte_for (type_of p) p)) p))

-- byte k of type t is there, and the cell 83 t + k is back
abbrev right_byte : ℕ → ℕ → Bool
right_byte t k = both (there t k) (back (t * science_size + k))

-- a row: 83 bytes, all there, and the 83 cells from 83 t on are all back
right : ℕ → Bool
right t = both (eqb (total_size (runs_of (row_of t))) science_size) (upto (right_byte t) science_size)

all_right : (t : ℕ) → t < types → T (right t)
unfolding both right there back place type_of rest_type samples_in rows
all_right = upto_at right types tt

-- 83 cells a type
pub total_83 : (t : ℕ) → t < types → total_size (runs_of (row_of t)) ≡ science_size
unfolding right
total_83 t h = eqb→eq _ _ (both_left (eqb (total_size (runs_of (row_of t))) science_size) _ (all_right t h))

at : (t k : ℕ) → t < types → k < science_size → T (right_byte t k)
unfolding right
at t k h l = upto_at (right_byte t) science_size (both_right (eqb (total_size (runs_of (row_of t))) science_size) _ (all_right t h)) k l

record There (t k : ℕ) : Type 0 where
  cell : place t k < cells
  type : type_of (place t k) ≡ t
  byte : byte_for t (place t k) ≡ k

is_there : (t k : ℕ) → t < types → k < science_size → There t k
unfolding there
is_there t k h l =
    let a = both_left (there t k) (back (t * science_size + k)) (at t k h l) in
    let b = both_right (ltb (place t k) cells) _ a in
    record {
      cell = ltb→lt _ _ (both_left (ltb (place t k) cells) _ a);
      type = eqb→eq _ _ (both_left (eqb (type_of (place t k)) t) _ b);
      byte = eqb→eq _ _ (both_right (eqb (type_of (place t k)) t) _ b);
    }

record Back (p : ℕ) : Type 0 where
  type : type_of p < types
  byte : byte_for (type_of p) p < science_size
  is : place (type_of p) (byte_for (type_of p) p) ≡ p

is_back : (p : ℕ) → p < cells → Back p
unfolding back
is_back p h =
    let t = p / 83 in
    let k = p % 83 in
    let e : t * 83 + k ≡ p = omega arith in
    let a = rw e at (both_right (there t k) (back (t * 83 + k)) (at t k (omega arith) (omega arith))) in
    let b = both_right (ltb (type_of p) types) _ a in
    record {
      type = ltb→lt _ _ (both_left (ltb (type_of p) types) _ a);
      byte = ltb→lt _ _ (both_left (ltb (byte_for (type_of p) p) science_size) _ b);
      is = eqb→eq _ _ (both_right (ltb (byte_for (type_of p) p) science_size) _ b);
    }

length_rows : length rows ≡ types
unfolding rows
length_rows = refl

-- a type that has cell p is the one that the code finds
record Had (t p : ℕ) : Type 0 where
  cell : p < cells
  type : type_of p ≡ t

had : (t p : ℕ) → t < types → some_has (runs_of (row_of t)) p ≡ true → Had t p
unfolding place
had t p h e =
    let b = had_place (runs_of (row_of t)) p e in
    let n = total_83 t h in
    let i = is_there t (byte_for t p) h (omega arith) in
    record { cell = subst (λ (q : ℕ). q < cells) b.1 i.cell; type = subst (λ (q : ℕ). type_of q ≡ t) b.1 i.type }

not_had : (t p : ℕ) → t < types → (Had t p → ⊥) → some_has (runs_of (row_of t)) p ≡ false
not_had t p h n = cases (some_has (runs_of (row_of t)) p) (λ e. rw e (absurd (n (had t p h e)))) (λ e. rw e)

-- the code finds the type that carries a cell
pub carrier_is : (p : ℕ) → p < cells → carrier p ≡ type_of p
unfolding carrier place
carrier_is p h =
    let b = is_back p h in
    let n = total_83 (type_of p) b.type in
    let rs = runs_of (row_of (type_of p)) in
    let e : some_has rs p ≡ true = subst (λ (q : ℕ). some_has rs q ≡ true) b.is (place_had rs (byte_for (type_of p) p) (omega (arith, b.byte))) in
    first_is (carries types [] none none) rows p (type_of p) (omega (arith, b.type, length_rows)) e
    (λ u l. not_had u p (omega (arith, b.type)) (λ k. omega (arith, k.type)))

-- past the cells there is none
pub carrier_none : (p : ℕ) → cells ≤ p → carrier p ≡ types
unfolding carrier
carrier_none p h = first_none (carries types [] none none) rows p (λ u l. not_had u p (omega (arith, length_rows)) (λ k. omega (arith, k.cell))) ∙ length_rows

module _ (t k : ℕ) (h : t < types) (l : k < science_size) where
  pub place_cell : place t k < cells
  place_cell = (is_there t k h l).cell

  pub carrier_place : carrier (place t k) ≡ t
  carrier_place = carrier_is (place t k) place_cell ∙ (is_there t k h l).type

  pub byte_place : byte_of (place t k) ≡ k
  unfolding byte_of
  byte_place = ap (λ (u : ℕ). byte_for u (place t k)) carrier_place ∙ (is_there t k h l).byte

-- no two bytes have one cell
pub place_once : (t k u l : ℕ) → t < types → k < science_size → u < types → l < science_size → place t k ≡ place u l → (t ≡ u) × (k ≡ l)
place_once t k u l ht hk hu hl e = (
  sym (carrier_place t k ht hk) ∙ ap carrier e ∙ carrier_place u l hu hl,
  sym (byte_place t k ht hk) ∙ ap byte_of e ∙ byte_place u l hu hl,
)

-- every cell is one byte of one type
pub once : (p : ℕ) → p < cells → Once p
unfolding byte_of
once p h =
    let c = carrier_is p h in
    let b = is_back p h in
    record {
      is_type = rw c b.type;
      is_byte = rw c b.byte;
      is = rw c b.is;
      only = λ t k ht hk e. (sym (carrier_place t k ht hk) ∙ ap carrier e, sym (byte_place t k ht hk) ∙ ap byte_of e);
    }

-- what the code's two ways of finding a type answer
pub rest_is : (x : ℕ) → x < rest_size → in_half (18 * (x / 662)) (x % 662) ≡ carrier (rest_cell x)
unfolding rest_type
rest_is x h =
    cases (ltb x 4)
    (λ e. rw e (let l = ltb-true x 4 e in sym (carrier_is x (omega arith) ∙ in_header x l)))
    (λ e.
    rw e (let l = ltb-false x 4 e in
    let q : three_d + (x - 4) - 1664 ≡ x = omega arith in
    sym (carrier_is (three_d + (x - 4)) (omega arith) ∙ in_three (three_d + (x - 4)) (omega arith) (omega arith) ∙ ap rest_type q)))

pub sample_is : (p : ℕ) → 4 ≤ p → p < three_d → sample_in ((p - 4) / 16) ≡ carrier p
sample_is p l h = sym (carrier_is p (omega arith) ∙ in_samples p l h)

-- no type above 36 is ever named
pub carrier_small : (p : ℕ) → carrier p ≤ types
carrier_small p =
    cases (ltb p cells)
    (λ e. omega (arith, (once p (ltb-true p cells e)).is_type))
    (λ e. omega (arith, carrier_none p (ltb-false p cells e)))

-- the runs of a type have exactly the cells that it carries
carried_had : (t p : ℕ) → t < types → carrier p ≡ t → some_has (runs_of (row_of t)) p ≡ true
unfolding place
carried_had t p h e = go (ltb p cells) refl
  where
    go : (b : Bool) → ltb p cells ≡ b → some_has (runs_of (row_of t)) p ≡ true
    go true l =
        let o = once p (ltb-true p cells l) in
        let n = total_83 t h in
        subst (λ (q : ℕ). some_has (runs_of (row_of t)) q ≡ true) (ap (λ (u : ℕ). place u (byte_of p)) (sym e) ∙ o.is)
        (place_had (runs_of (row_of t)) (byte_of p) (omega (arith, o.is_byte)))
    go false l = let n = carrier_none p (ltb-false p cells l) in absurd (omega arith)

pub had_is : (t p : ℕ) → t < types → some_has (runs_of (row_of t)) p ≡ eqb (carrier p) t
had_is t p h = go (some_has (runs_of (row_of t)) p) refl
  where
    go : (b : Bool) → some_has (runs_of (row_of t)) p ≡ b → b ≡ eqb (carrier p) t
    go true x = let k = had t p h x in sym (eq-eqb (carrier p) t (carrier_is p k.cell ∙ k.type))
    go false x = sym (ne_eqb (carrier p) t (λ e. false≢true (sym x ∙ carried_had t p h e)))
