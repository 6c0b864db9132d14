-- Marks kept as the bits of a number, set one after another, each above those before it: by any key of the items.
-- Assumes nothing.
use mathlib.Core.Path.{◌≡◌, sym, ◌∙◌}
use mathlib.Core.Bool.{true, false}
use mathlib.Core.List.{List, [], ◌∷◌}
use Prim.Native.Nat.{ℕ, ◌+◌, ◌^◌, ◌<◌, ◌≤◌}
use native.Mathlib.Nat.{zero-add}
use native.Mathlib.Omega.{arith}
use lib.Count.{ones}
use lib.ListN.{length}
use lib.Pow.{pow_mono, pow_pos}
use Rattle.prelude.specs.Marks.{bit_set, marked}
use Rattle.prelude.specs.Every.{Every}
use Rattle.prelude.proofs.Marks.{marked_own, marked_other, marked_below, ones_marked, bits_above}
use Rattle.gathering.specs.Laying.{put_all, Rising, Unused, Table}
use Rattle.gathering.proofs.Laying.{all_fit, stays, stand}
use Rattle.gathering.proofs.Members.{In, in_every}

abbrev pub marks_from : {I : Type 0} → (I → ℕ) → ℕ → List I → ℕ
marks_from key m xs = put_all (λ x n. marked n (key x)) m xs

module _ {I : Type 0} (key : I → ℕ) where
  abbrev pub Any : I → Type 0
  Any x = Unit {0}

  -- the marks are a table: bit u for the key u
  marks : Table key (λ x n. marked n (key x)) bit_set (λ x. true) Any (λ u. Unit {0}) (λ low m. m < 2 ^ low)
  marks =
      record {
        keyed = λ x g. tt;
        fits = λ x m low g l f. marked_below m (key x) (omega (arith, pow_mono l));
        own = λ x m low g l f. marked_own m (key x) (omega (arith, pow_mono l));
        other = λ x m low u g l f k n. marked_other m (key x) u (omega (arith, pow_mono l)) (λ e. n (sym e));
      }

  any : (xs : List I) → Every Any xs
  any xs = in_every Any xs (λ x i. tt)

  module _ (xs : List I) (low : ℕ) (r : Rising key low xs) where
    -- the mark of each, none of another key, and none past the keys
    pub marks_set : (x : I) → In x xs → bit_set (marks_from key 0 xs) (key x) ≡ true
    marks_set x i = stand marks xs 0 low (any xs) r (pow_pos low) x i

    pub marks_free : (u : ℕ) → Unused key u xs → bit_set (marks_from key 0 xs) u ≡ false
    marks_free u n = stays marks xs 0 low u (any xs) r (pow_pos low) tt n ∙ bits_above 0 u (pow_pos u)

    pub marks_below : (n : ℕ) → low ≤ n → Every (λ x. key x < n) xs → marks_from key 0 xs < 2 ^ n
    marks_below n l u = all_fit marks xs 0 low n (λ m k i f. omega (arith, pow_mono i)) l u (any xs) r (pow_pos low)

  -- as many as there are items
  count_from : (xs : List I) (low m : ℕ) → m < 2 ^ low → Rising key low xs → ones (marks_from key m xs) ≡ ones m + length xs
  unfolding put_all Rising
  count_from [] low m h r = omega arith
  count_from (x ∷ xs) low m h r =
      let f : m < 2 ^ key x = omega (arith, pow_mono r.0) in
      omega (arith, count_from xs (key x + 1) (marked m (key x)) (marked_below m (key x) f) r.1, ones_marked m (key x) f)

  pub marks_count : (xs : List I) (low : ℕ) → Rising key low xs → ones (marks_from key 0 xs) ≡ length xs
  unfolding ones
  marks_count xs low r = count_from xs low 0 (pow_pos low) r ∙ zero-add (length xs)

  -- with one in it, some are set
  pub marks_some : (xs : List I) (m : ℕ) → 0 < m → 0 < marks_from key m xs
  unfolding put_all marked
  marks_some [] m h = h
  marks_some (x ∷ xs) m h = marks_some xs (marked m (key x)) (omega arith)
