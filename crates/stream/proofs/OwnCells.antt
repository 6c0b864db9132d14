-- Each kept real-time record has exactly one accumulation of its own, and what an accumulation holds is all of such records.
-- Assumes nothing.
use mathlib.Core.Path.{◌≡◌, refl, sym, ap, subst, ◌∙◌}
use mathlib.Core.Bool.{true, false}
use mathlib.Core.List.{List, [], ◌∷◌}
use mathlib.Core.Logic.{◌⊎◌, inl, inr, ⊎_elim}
use Prim.Native.Nat.{ℕ, ◌<◌, ◌≤◌}
use native.Mathlib.Omega.{arith}
use lib.ListN.{get_or}
use Rattle.prelude.specs.Marks.{bit_set}
use Rattle.prelude.specs.Every.{Every}
use Rattle.record.specs.Layout.{frame_code, science_bytes}
use Rattle.carriage.specs.Carriage.{types, place, carrier, byte_of}
use Rattle.carriage.proofs.EachCell.{once}
use Rattle.cells.specs.Laying.{top_pair, pair_at}
use Rattle.gathering.specs.Lists.{Some, Pairwise, Neighbours, flat, Linked, Cut}
use Rattle.gathering.specs.Laying.{Rising}
use Rattle.gathering.proofs.Grouping.{all_share}
use Rattle.gathering.proofs.Members.{In, Among, every_in, some_in, in_some, unique, neighbours_in, neighbours_rise}
use Rattle.gathering.proofs.Owning.{Tied, set_by, set_from, unset_free, Owned, owned, both_own}
use Rattle.stream.specs.Running.{ClosedAccumulation}
use Rattle.stream.specs.Sending.{Kept}
use Rattle.stream.specs.Cutting.{at, type_of, round, lost_between, tears, Joined, Parted}
use Rattle.stream.specs.Filling.{packet, Stands, Missing, Filled}
use Rattle.stream.specs.Once.{Own, Unmixed}
use Rattle.stream.proofs.Chains.{serial, Typed}

-- an accumulation is all of one round
one_round : (fs : List Kept) (p f : Kept) → Linked Joined p fs → In f (p ∷ fs) → round f ≡ round p
one_round fs p f l i = every_in (λ x. round x ≡ round p) (p ∷ fs) f (all_share (λ x. round x) Joined (λ p f j. j.same) fs p l) i

-- the accumulations of the kept real-time records rs
module _ (rs : List Kept) (c k : ℕ) (counts : Rising at c rs) (serials : Rising serial k rs) (known : Every Typed rs) where
  abbrev pub Part : List Kept → ClosedAccumulation → Type 0
  Part g a = Filled g a × Tied Joined g

  -- a record of the part has its accumulation
  part_own : (f : Kept) (g : List Kept) (a : ClosedAccumulation) → Part g a → Among rs g → In f g → Own rs f a
  unfolding Tied Some
  part_own f [] a p w i = absurd i
  part_own f (h ∷ t) a p w i = (
    (every_in (λ f. Stands f a) (h ∷ t) f p.0.own i).held,
    some_in (λ x. (at x ≡ a.report.first) × (round x ≡ round f)) rs h (w h (inl refl)) (sym p.0.first, sym (one_round t h f p.1 i)),
  )

  -- one of its round and type is that record
  same_record : (f x : Kept) → In f rs → In x rs → round x ≡ round f → type_of x ≡ type_of f → x ≡ f
  unfolding serial
  same_record f x i j r e =
      let a = (every_in Typed rs f known i).typed in
      let b = (every_in Typed rs x known j).typed in
      unique serial rs k x f serials j i (omega arith)

  -- a record whose own the accumulation is, is in its part
  own_part : (f : Kept) → In f rs → (g : List Kept) (a : ClosedAccumulation) → Part g a → Among rs g → Own rs f a → In f g
  unfolding Tied Some
  own_part f i [] a p w o = absurd p.1
  own_part f i (h ∷ t) a p w o =
      in_some (λ x. (at x ≡ a.report.first) × (round x ≡ round f)) (In f (h ∷ t)) rs o.1 (λ x j q.
      let e = unique at rs c x h counts j (w h (inl refl)) (q.0 ∙ p.0.first) in
      let r = rw e at q.1 in
      let b = (every_in Typed rs f known i).typed in
      set_by type_of (h ∷ t) (bit_set a.report.held) (type_of f) (λ n. (p.0.others (type_of f) (omega arith) n).unheld) o.0 (In f (h ∷ t)) (λ y j e.
      subst (λ (z : Kept). In z (h ∷ t)) (same_record f y i (w y j) (one_round t h y p.1 j ∙ r) e) j))

  -- what is held comes from one round
  unmixed_part : (g : List Kept) (a : ClosedAccumulation) → Part g a → Among rs g → Unmixed rs a
  unfolding Tied Some
  unmixed_part [] a p w = absurd p.1
  unmixed_part (h ∷ t) a p w = record {
    of = round h;
    first = some_in (λ x. (at x ≡ a.report.first) × (round x ≡ round h)) rs h (w h (inl refl)) (sym p.0.first, refl);
    cell = λ q l e.
        let o = once q l in
        source (carrier q) o.is_type e (λ f. get_or a.cells q 0 ≡ get_or (science_bytes (packet f)) (byte_of q) 0) (λ f z s.
        sym (rw (ap (λ u. place u (byte_of q)) z ∙ o.is)) ∙ s.science (byte_of q) o.is_byte);
    no_cell = λ q l e.
        let o = once q l in
        sym (rw o.is) ∙ (absent (carrier q) o.is_type e).science (byte_of q) o.is_byte;
    pair = λ u l e. source u l e (λ f. pair_at a.cells u ≡ top_pair (frame_code (packet f))) (λ f z s. ap (λ n. pair_at a.cells n) (sym z) ∙ s.pair);
    no_pair = λ u l e. (absent u l e).pair;
  }
    where
      stands : (y : Kept) → In y (h ∷ t) → Stands y a
      stands y j = every_in (λ f. Stands f a) (h ∷ t) y p.0.own j

      -- a type that is held is that of a record of the part
      source : (u : ℕ) → u < types → bit_set a.report.held u ≡ true
          → (Q : Kept → Type 0) → ((f : Kept) → type_of f ≡ u → Stands f a → Q f)
          → Some (λ f. (type_of f ≡ u) × (round f ≡ round h) × Q f) rs
      source u l e Q k =
          set_from type_of (h ∷ t) (bit_set a.report.held) u rs w (λ n. (p.0.others u l n).unheld) e
          (λ f. (type_of f ≡ u) × (round f ≡ round h) × Q f) (λ y j z. (z, one_round t h y p.1 j, k y z (stands y j)))

      absent : (u : ℕ) → u < types → bit_set a.report.held u ≡ false → Missing u a
      absent u l e = p.0.others u l (unset_free type_of (h ∷ t) (bit_set a.report.held) u (λ y j. (stands y j).held) e)

  -- all accumulations handed out
  module _ (gs : List (List Kept)) (os : List ClosedAccumulation) (whole : flat gs ≡ rs) (parts : Pairwise Part gs os) where
    pub cells_owned : Owned (Own rs) Stands (Unmixed rs) rs os
    cells_owned = owned Part (Own rs) rs part_own gs os whole parts own_part serial k serials Stands (λ g a p. p.0.own) (Unmixed rs) unmixed_part

    pub torn_where : Cut Joined Parted gs → (p f : Kept) → Neighbours p f rs → round p ≡ round f
        → Some (λ a. Own rs p a × Own rs f a) os ⊎ (tears ≤ lost_between p f)
    torn_where cut p f n r =
        ⊎_elim (λ s. inl s)
        (λ s. inr (omega (arith, s r, rises)))
        (both_own Part (Own rs) rs part_own gs os whole parts Joined Parted cut p f n)
      where
        -- of one round, the later one has the higher type
        rises : type_of p < type_of f
        rises =
            let i = neighbours_in rs p f n in
            omega (arith, later, (every_in Typed rs p known i.0).typed, (every_in Typed rs f known i.1).typed)
          where
            later : p.serial < f.serial
            later = unfold serial in neighbours_rise serial rs k p f serials n
