-- Burst packets by their numbers: which of them lie between two, and whether one of those has bit 6 (02, request 2).
-- Assumes nothing.
use mathlib.Core.Path.{◌≡◌, refl, sym, ap, subst}
use mathlib.Core.Bool.{Bool, true, false, cond, ◌&&◌, ◌||◌, and-false, or-false, or_assoc}
use mathlib.Core.List.{List, [], ◌∷◌, ◌++◌}
use Prim.Native.Nat.{ℕ, zero, suc, ◌+◌, ◌<◌, ◌≤◌}
use native.Mathlib.Omega.{arith}
use lib.Dec.{ltb, leb}
use lib.ListN.{length}
use borrow.Author.Tests.{ltb-true, lt-ltb, le-leb, lt-leb}
use Rattle.record.specs.Frame.{carries_burst, carries_two}
use Rattle.record.specs.Contents.{record_of}
use Rattle.snapshot.specs.Snapshot.{cuts}
use Rattle.gathering.specs.Places.{At}
use Rattle.stream.specs.Sending.{Kept}
use Rattle.stream.specs.Bursts.{Packet, first_of, second_of, packets_from, cut_between}

-- numbers from n on, one after another
unfoldable pub Numbered : ℕ → List Packet → Type 0
Numbered n [] = Unit {0}
Numbered n (q ∷ qs) = (q.number ≡ n) × Numbered (n + 1) qs

pub numbered : (xs : List Kept) (n : ℕ) → Numbered n (packets_from n xs)
unfolding Numbered packets_from
numbered [] n = tt
numbered (x ∷ xs) n = go (carries_two (record_of x.bytes).kind) (carries_burst (record_of x.bytes).kind) (numbered xs)
  where
    these : Bool → Bool → List Packet
    these t b = cond t (first_of n x ∷ second_of (n + 1) x ∷ []) (cond b (first_of n x ∷ []) [])

    go : (t b : Bool) → ((m : ℕ) → Numbered m (packets_from m xs)) → Numbered n (these t b ++ packets_from (n + length (these t b)) xs)
    go true b ih = let e : n + 2 ≡ n + 1 + 1 = omega arith in (refl, (refl, subst (λ m. Numbered m (packets_from (n + 2) xs)) e (ih (n + 2))))
    go false true ih = (refl, ih (n + 1))
    go false false ih = let e : n + 0 ≡ n = omega arith in subst (λ m. Numbered m (packets_from (n + 0) xs)) e (ih (n + 0))

-- no cut lies before the first packet
pub between_none : (qs : List Packet) (n i j : ℕ) → Numbered n qs → j < n → cut_between qs i j ≡ false
unfolding Numbered cut_between
between_none [] n i j h l = refl
between_none (q ∷ qs) n i j h l =
    rw (h.0, lt-leb n j l, and-false) (between_none qs (n + 1) i j h.1 (omega arith))

-- no cut between a number and itself
pub between_same : (qs : List Packet) (i : ℕ) → cut_between qs i i ≡ false
unfolding cut_between
between_same [] i = refl
between_same (q ∷ qs) i = go (ltb i q.number) refl (between_same qs i)
  where
    go : (t : Bool) → ltb i q.number ≡ t → cut_between qs i i ≡ false → ((t && (leb q.number i && cuts q.code)) || cut_between qs i i) ≡ false
    go true e r = rw (lt-leb q.number i (ltb-true i q.number e)) r
    go false e r = r

-- one more
pub between_more : (qs : List Packet) (n k i j : ℕ) (q : Packet) → Numbered n qs → At k q qs → n + k ≡ j + 1 → i ≤ j
    → cut_between qs i (j + 1) ≡ (cut_between qs i j || cuts q.code)
unfolding Numbered cut_between At
between_more [] n k i j q h a e l = absurd a
between_more (x ∷ qs) n zero i j q h a e l =
    let m : x.number ≡ j + 1 = omega arith in
    rw (
      m,
      lt-ltb i (j + 1) (omega arith),
      le-leb (j + 1) (j + 1) (omega arith),
      lt-leb (j + 1) j (omega arith),
      between_none qs (n + 1) i (j + 1) h.1 (omega arith),
      between_none qs (n + 1) i j h.1 (omega arith),
      or-false (cuts x.code),
      ap (λ (y : Packet). cuts y.code) a,
    )
between_more (x ∷ qs) n (suc k) i j q h a e l =
    rw (
      h.0,
      le-leb n (j + 1) (omega arith),
      le-leb n j (omega arith),
      between_more qs (n + 1) k i j q h.1 a (omega arith) l,
    )
    (sym (or_assoc (ltb i n && cuts x.code) (cut_between qs i j) (cuts q.code)))
