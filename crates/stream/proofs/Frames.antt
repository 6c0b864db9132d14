-- The major frames of the kept records: those of one major number together (01, "Subcom and major frame").
-- Assumes nothing.
use mathlib.Core.Path.{◌≡◌, refl, sym, ◌∙◌}
use mathlib.Core.Bool.{true, false, true≢false}
use mathlib.Core.List.{List, [], ◌∷◌, ◌++◌}
use Prim.Native.Nat.{ℕ, ◌+◌, ◌^◌}
use native.Mathlib.Omega.{arith}
use lib.IntN.{ℤ}
use lib.Pow.{pow_pos}
use borrow.Author.Tests.{eqb-true, eqb-false, ne_eqb}
use Rattle.prelude.specs.Marks.{marked}
use Rattle.prelude.proofs.Conds.{two}
use Rattle.major.specs.Major.{major_number, major_open, no_major, continues, into}
use Rattle.major.specs.declared.Major.{Major}
use Rattle.gathering.specs.Gathering.{Gathers, Grouped}
use Rattle.gathering.specs.Laying.{put_all, Rising}
use Rattle.gathering.proofs.Grouping.{gathered, map_same}
use Rattle.gathering.proofs.Laying.{put_more}
use Rattle.gathering.proofs.Those.{those_all}
use Rattle.stream.specs.Running.{ClosedMajor}
use Rattle.stream.specs.Sending.{Kept}
use Rattle.stream.specs.Cutting.{at, major, Beside, Behind}
use Rattle.stream.specs.Filling.{slot}
use Rattle.stream.proofs.Calls.{samples_with, no_samples, major_closing, major_with, collecting, collect}

-- records put into a major frame, and their samples laid, one after another
abbrev pub major_from : Major → List Kept → Major
major_from m fs = put_all major_with m fs

abbrev pub samples_from : List ℤ → List Kept → List ℤ
samples_from s fs = put_all samples_with s fs

-- a major frame with these records, as it is handed out
unfoldable pub major_of : List Kept → ClosedMajor
major_of g = record { frame = major_from no_major g; samples = samples_from no_samples g }

-- nothing is open, and the records h ∷ t are, p the last of them, with the records xs to come
record Shut (g : Major × List ℤ) (xs : List Kept) : Type 0 where
  low : ℕ
  is : g.0 ≡ no_major
  rising : Rising at low xs

record Open (h : Kept) (t : List Kept) (p : Kept) (g : Major × List ℤ) (xs : List Kept) : Type 0 where
  is : g ≡ (major_from no_major (h ∷ t), samples_from no_samples (h ∷ t))
  is_open_lem : major_open g.0 ≡ true
  number : g.0.number ≡ major p
  rising : Rising at (at p + 1) xs

-- a major frame with a record in it is open
with_open : (x : Kept) (m : Major) → major_open (major_with x m) ≡ true
unfolding major_with into marked
with_open x m = rw (ne_eqb (m.slots + 2 ^ slot x) 0 (λ z. omega (arith, pow_pos (slot x))))

module _ (x : Kept) (xs : List Kept) where
  anew : (low : ℕ) → Rising at low (x ∷ xs) → Open x [] x (major_with x no_major, samples_with x no_samples) xs
  unfolding Rising put_all
  anew low r = record { is = refl; is_open_lem = with_open x no_major; number = unfold major_with into in refl; rising = r.1 }

  module _ (h : Kept) (t : List Kept) (p : Kept) (g : Major × List ℤ) (o : Open h t p g (x ∷ xs)) where
    joins : continues g.0 (at x) ≡ true → Beside p x × Open h (t ++ (x ∷ [])) x (major_with x g.0, samples_with x g.1) xs
    unfolding continues Rising
    joins e = (
      (sym (eqb-true g.0.number (major_number (at x)) (two (major_open g.0) _ e).1) ∙ o.number, omega arith),
      record {
        is = rw (o.is, put_more major_with (h ∷ t) no_major x, put_more samples_with (h ∷ t) no_samples x) refl;
        is_open_lem = with_open x g.0;
        number = unfold major_with into in refl;
        rising = o.rising.1;
      },
    )

    parts : continues g.0 (at x) ≡ false → Behind p x
    unfolding continues Rising
    parts e =
        let n = eqb-false g.0.number (major_number (at x)) (rw o.is_open_lem at e) in
        omega arith

collects : Gathers collecting Beside Behind major_of Shut Open
collects = record {
  shut_closes = λ g xs s. unfold major_closing in rw s.is refl;
  shut_passes = λ g x xs e s. absurd (true≢false e);
  shut_opens = λ g x xs e s. (unfold continues in rw s.is refl, anew x xs s.low s.rising);
  closes = λ h t p g xs o. unfold major_closing major_of in rw (o.is_open_lem, o.is) refl;
  passes = λ h t p g x xs e o. absurd (true≢false e);
  joins = λ h t p g x xs e j o. joins x xs h t p g o j;
  parts = λ h t p g x xs e j o. (parts x xs h t p g o j, anew x xs (at p + 1) o.rising);
}

-- from nothing open: the major frames handed out are some cutting of the kept records
pub frames : (xs : List Kept) (s : List ℤ) (c : ℕ) → Rising at c xs → Grouped Beside Behind major_of xs (collect no_major s xs)
frames xs s c r =
    rw (map_same _ ∙ those_all xs) at
    (gathered collecting Beside Behind major_of Shut Open collects xs (no_major, s) (record { low = c; is = refl; rising = r }))
