-- Each kept record has exactly one major frame of its own, and what a major frame holds is all of such records.
-- Assumes nothing.
use mathlib.Core.Path.{◌≡◌, sym, ◌∙◌}
use mathlib.Core.List.{List}
use Prim.Native.Nat.{ℕ}
use native.Mathlib.Omega.{arith}
use Rattle.prelude.specs.Marks.{bit_set}
use Rattle.gathering.specs.Lists.{Pairwise, flat}
use Rattle.gathering.specs.Laying.{Rising}
use Rattle.gathering.proofs.Members.{In, Among, every_in, unique, those_in, among_those}
use Rattle.gathering.proofs.Owning.{set_by, set_from, unset_free, Owned, owned}
use Rattle.stream.specs.Running.{ClosedMajor}
use Rattle.stream.specs.Sending.{Kept, has_mag, magged}
use Rattle.stream.specs.Cutting.{at, major}
use Rattle.stream.specs.Filling.{slot, Sampled, Slotted, MajorFilled}
use Rattle.stream.specs.Once.{OwnMajor, UnmixedMajor}

-- the major frames of the kept records rs
module _ (rs : List Kept) (c : ℕ) (counts : Rising at c rs) where
  slot_own : (f : Kept) (g : List Kept) (m : ClosedMajor) → MajorFilled g m → Among rs g → In f g → OwnMajor f m
  slot_own f g m p w i = let s = every_in (λ f. Slotted f m) g f p.own i in (s.number, s.held)

  own_slot : (f : Kept) → In f rs → (g : List Kept) (m : ClosedMajor) → MajorFilled g m → Among rs g → OwnMajor f m → In f g
  own_slot f i g m p w o =
      set_by slot g (bit_set m.frame.slots) (slot f) (λ n. (p.no_slot (slot f) (omega arith) n).unheld) o.1 (In f g) (λ y j e.
      let n = sym (every_in (λ f. Slotted f m) g y p.own j).number ∙ o.0 in
      rw (unique at rs c y f counts (w y j) i (omega arith)) at j)

  -- what is held comes from its records
  unmixed_slots : (g : List Kept) (m : ClosedMajor) → MajorFilled g m → Among rs g → UnmixedMajor rs m
  unmixed_slots g m p w = record {
    held = λ i l e.
        set_from slot g (bit_set m.frame.slots) i rs w (λ n. (p.no_slot i l n).unheld) e (λ f. (slot f ≡ i) × Slotted f m) (λ y j z. (z, stands y j));
    unheld = λ i l e. p.no_slot i l (unset_free slot g (bit_set m.frame.slots) i (λ y j. (stands y j).held) e);
    marked = λ i l e.
        set_from slot (magged g) (bit_set m.frame.mag_slots) i (magged rs) (among_those has_mag rs g w) (λ n. (p.no_mag i l n).unmarked) e
        (λ f. (slot f ≡ i) × (major f ≡ m.frame.number) × Sampled f m) (λ y j z. (z, sym (stands y (those_in has_mag g y j).0).number, sampled y j));
    unmarked = λ i l e. p.no_mag i l (unset_free slot (magged g) (bit_set m.frame.mag_slots) i (λ y j. (sampled y j).marked) e);
  }
    where
      stands : (y : Kept) → In y g → Slotted y m
      stands y j = every_in (λ f. Slotted f m) g y p.own j

      sampled : (y : Kept) → In y (magged g) → Sampled y m
      sampled y j = let r = those_in has_mag g y j in (stands y r.0).mag r.1

  pub slots_owned : (gs : List (List Kept)) (os : List ClosedMajor) → flat gs ≡ rs → Pairwise MajorFilled gs os
      → Owned OwnMajor Slotted (UnmixedMajor rs) rs os
  slots_owned gs os whole parts =
      owned MajorFilled OwnMajor rs slot_own gs os whole parts own_slot at c counts Slotted (λ g m p. p.own) (UnmixedMajor rs) unmixed_slots
