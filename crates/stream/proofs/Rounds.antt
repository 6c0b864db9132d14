-- The accumulations of the kept records: what joins is of one round; what is of one round and doesn't join has 36 or more
-- counts lost between (01, "Joining accumulations").
-- Assumes nothing.
use mathlib.Core.Path.{◌≡◌, refl, sym, subst, ◌∙◌}
use mathlib.Core.Bool.{Bool, true, false, true≢false}
use mathlib.Core.List.{List, [], ◌∷◌, ◌++◌}
use Prim.Native.Nat.{ℕ, ◌+◌, ◌%◌, ◌^◌, ◌<◌, ◌≤◌}
use native.Mathlib.Nat.{zero-add}
use native.Mathlib.Omega.{arith}
use lib.Dec.{ltb, leb}
use lib.Pow.{pow_pos}
use borrow.Author.Tests.{ltb-true, leb-true, lt-ltb, le-leb, ne_eqb, leb-false}
use Rattle.prelude.specs.Marks.{marked}
use Rattle.prelude.proofs.Conds.{two}
use Rattle.carriage.specs.Carriage.{types}
use Rattle.accumulation.specs.Accumulation.{is_open, no_accumulation, gap, fewest, most, joins, joined, started, passed}
use Rattle.accumulation.specs.declared.Accumulation.{Accumulation}
use Rattle.stream.specs.Running.{ClosedAccumulation}
use Rattle.gathering.specs.Gathering.{Gathers, Grouped}
use Rattle.gathering.specs.Laying.{put_all}
use Rattle.gathering.proofs.Grouping.{gathered, map_same}
use Rattle.gathering.proofs.Laying.{put_more}
use Rattle.gathering.proofs.Marking.{marks_from, marks_some}
use Rattle.stream.specs.Sending.{real_time, next_real, Kept, reals}
use Rattle.stream.specs.Cutting.{at, type_of, lost_between, Joined, Parted}
use Rattle.stream.specs.Filling.{first_count}
use Rattle.stream.proofs.Calls.{cells_with, no_cells, closing, accumulating, accumulate}
use Rattle.stream.proofs.Chains.{Next, Chain}

-- the cells of frames, one after another
abbrev pub cells_from : List ℕ → List Kept → List ℕ
cells_from c fs = put_all cells_with c fs

-- an accumulation with these frames, as it is handed out
unfoldable pub out_of : List Kept → ClosedAccumulation
out_of g = record { report = record { first = first_count g; held = marks_from type_of 0 g }; cells = cells_from no_cells g }

-- an accumulation with these frames while it is open: p its last frame, o other frames since
abbrev open_with : List Kept → Kept → ℕ → Accumulation
open_with g p o = record { first = first_count g; held = marks_from type_of 0 g; last_type = type_of p; last_count = at p; others = o }

module _ (h : Kept) (t : List Kept) (p : Kept) (o : ℕ) where
  is_open_lem : is_open (open_with (h ∷ t) p o) ≡ true
  unfolding put_all marked
  is_open_lem =
      let m = 0 + 2 ^ type_of h in
      let some = marks_some type_of t m (omega (arith, pow_pos (type_of h))) in
      rw (ne_eqb (marks_from type_of m t) 0 (λ z. omega arith))

  closes : closing (open_with (h ∷ t) p o) (cells_from no_cells (h ∷ t)) ≡ out_of (h ∷ t) ∷ []
  unfolding closing out_of
  closes = rw is_open_lem

-- what ties the last frame p to what was sent since
record Ties (p : Kept) (o c k l : ℕ) : Type 0 where
  before : p.serial < k
  lost : p.lost ≤ l
  account : at p + 1 + o + l ≡ c + p.lost
  between : k + p.lost ≤ p.serial + 1 + l
  typed : type_of p ≡ p.serial % types

-- the next real-time record f
module _ (g : List Kept) (p f : Kept) (o c k l : ℕ) (t : Ties p o c k l) (n : Next c k l f) (real : real_time f.bytes ≡ true) where
  gap_is : gap (open_with g p o) (at f) ≡ lost_between p f
  gap_is = omega arith

  type_is : type_of f ≡ f.serial % types
  type_is = n.typed real

  joined_so : joins (open_with g p o) (type_of f) (at f) ≡ true → Joined p f
  unfolding joins
  joined_so e =
      let a = two (is_open (open_with g p o)) _ e in
      let b = two (ltb (type_of p) (type_of f)) _ a.1 in
      let d = two (leb (fewest (type_of p) (type_of f)) (gap (open_with g p o) (at f))) _ b.1 in
      let u = ltb-true (type_of p) (type_of f) b.0 in
      let v : gap (open_with g p o) (at f) ≤ most (type_of p) (type_of f) = leb-true _ _ d.1 in
      record { same = omega (arith, type_is); rising = u; near = omega arith }

  torn_so : is_open (open_with g p o) ≡ true → joins (open_with g p o) (type_of f) (at f) ≡ false → Parted p f
  unfolding joins
  torn_so i e same = go (leb (gap (open_with g p o) (at f)) (most (type_of p) (type_of f))) refl
    where
      rises : type_of p < type_of f
      rises = omega (arith, type_is)

      few : fewest (type_of p) (type_of f) ≤ gap (open_with g p o) (at f)
      few = omega (arith, type_is)

      go : (b : Bool) → leb (gap (open_with g p o) (at f)) (most (type_of p) (type_of f)) ≡ b → most (type_of p) (type_of f) < lost_between p f
      go true q =
          let u = lt-ltb (type_of p) (type_of f) rises in
          let v = le-leb (fewest (type_of p) (type_of f)) (gap (open_with g p o) (at f)) few in
          absurd (true≢false (sym (rw (i, u, v, q) refl) ∙ e))
      go false q = omega (arith, leb-false (gap (open_with g p o) (at f)) (most (type_of p) (type_of f)) q)

-- after a real-time record, after an other one
ties_real : (f : Kept) (c k l : ℕ) → Next c k l f → real_time f.bytes ≡ true → Ties f 0 (at f + 1) (next_real f.serial f.bytes) f.lost
ties_real f c k l n e = rw e (record { before = omega arith; lost = omega arith; account = omega arith; between = omega arith; typed = n.typed e })

ties_other : (p f : Kept) (o c k l : ℕ) → Ties p o c k l → Next c k l f → real_time f.bytes ≡ false
    → Ties p (o + 1) (at f + 1) (next_real f.serial f.bytes) f.lost
ties_other p f o c k l t n e = rw e (record { before = omega arith; lost = omega arith; account = omega arith; between = omega arith; typed = t.typed })

-- nothing is open, and the frames h ∷ t are, p the last of them, with the records xs to come
record Shut (g : Accumulation × List ℕ) (xs : List Kept) : Type 0 where
  count : ℕ
  serial : ℕ
  lost : ℕ
  is : g.0 ≡ no_accumulation
  chained : Chain count serial lost xs

record Open (h : Kept) (t : List Kept) (p : Kept) (g : Accumulation × List ℕ) (xs : List Kept) : Type 0 where
  others : ℕ
  count : ℕ
  serial : ℕ
  lost : ℕ
  is : g ≡ (open_with (h ∷ t) p others, cells_from no_cells (h ∷ t))
  tied : Ties p others count serial lost
  chained : Chain count serial lost xs

module _ (x : Kept) (xs : List Kept) where
  -- a real-time record opens one
  anew : (c k l : ℕ) → real_time x.bytes ≡ true → Chain c k l (x ∷ xs) → Open x [] x (started (type_of x) (at x), cells_with x no_cells) xs
  unfolding Chain put_all marked
  anew c k l e w = record { others = 0; count = _; serial = _; lost = _; is = rw zero-add refl; tied = ties_real x c k l w.0 e; chained = w.1 }

  shut_passes : (g : Accumulation × List ℕ) → Shut g (x ∷ xs) → Shut (passed g.0, g.1) xs
  unfolding Chain
  shut_passes g s = record { count = _; serial = _; lost = _; is = rw s.is refl; chained = s.chained.1 }

  module _ (h : Kept) (t : List Kept) (p : Kept) (g : Accumulation × List ℕ) (o : Open h t p g (x ∷ xs)) where
    passes_by_lem : real_time x.bytes ≡ false → Open h t p (passed g.0, g.1) xs
    unfolding Chain
    passes_by_lem e =
        let w = ties_other p x o.others o.count o.serial o.lost o.tied o.chained.0 e in
        let i = is_open_lem h t p o.others in
        record { others = o.others + 1; count = _; serial = _; lost = _; is = rw (o.is, i) refl; tied = w; chained = o.chained.1 }

    goes_in : real_time x.bytes ≡ true → Open h (t ++ (x ∷ [])) x (joined g.0 (type_of x) (at x), cells_with x g.1) xs
    unfolding Chain
    goes_in e =
        let w = ties_real x o.count o.serial o.lost o.chained.0 e in
        let m = put_more (λ y n. marked n (type_of y)) (h ∷ t) 0 x in
        let c = put_more cells_with (h ∷ t) no_cells x in
        record { others = 0; count = _; serial = _; lost = _; is = rw (o.is, m, c) refl; tied = w; chained = o.chained.1 }

    -- what the joining rule says of the two
    module _ (e : real_time x.bytes ≡ true) (b : Bool) (j : joins g.0 (type_of x) (at x) ≡ b) where
      rule : joins (open_with (h ∷ t) p o.others) (type_of x) (at x) ≡ b
      rule = rw o.is at j

      in_one : b ≡ true → Joined p x
      unfolding Chain
      in_one q = joined_so (h ∷ t) p x o.others o.count o.serial o.lost o.tied o.chained.0 e (rule ∙ q)

      in_two : b ≡ false → Parted p x
      unfolding Chain
      in_two q =
          torn_so (h ∷ t) p x o.others o.count o.serial o.lost o.tied o.chained.0 e (is_open_lem h t p o.others) (rule ∙ q)

accumulates : Gathers accumulating Joined Parted out_of Shut Open
accumulates = record {
  shut_closes = λ g xs s. unfold closing in rw s.is refl;
  shut_passes = λ g x xs e s. shut_passes x xs g s;
  shut_opens = λ g x xs e s. (unfold joins in rw s.is refl, anew x xs s.count s.serial s.lost e s.chained);
  closes = λ h t p g xs o. rw o.is (closes h t p o.others);
  passes = λ h t p g x xs e o. passes_by_lem x xs h t p g o e;
  joins = λ h t p g x xs e j o. (in_one x xs h t p g o e true j refl, goes_in x xs h t p g o e);
  parts = λ h t p g x xs e j o. (in_two x xs h t p g o e false j refl, anew x xs o.count o.serial o.lost e o.chained);
}

-- from nothing open: the accumulations handed out are some cutting of the kept real-time records
pub rounds : (xs : List Kept) (b : List ℕ) (c k l : ℕ) → Chain c k l xs → Grouped Joined Parted out_of (reals xs) (accumulate no_accumulation b xs)
rounds xs b c k l w =
    let s : Shut (no_accumulation, b) xs = record { count = c; serial = k; lost = l; is = refl; chained = w } in
    let Out : List Kept → Type 0 = λ ys. Grouped Joined Parted out_of ys (accumulate no_accumulation b xs) in
    subst Out (map_same (reals xs)) (gathered accumulating Joined Parted out_of Shut Open accumulates xs (no_accumulation, b) s)
