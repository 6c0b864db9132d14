-- The kept records by themselves: what the numbers of one say of the next.
-- Assumes nothing.
use mathlib.Core.Path.{◌≡◌, refl, ◌∙◌}
use mathlib.Core.Bool.{Bool, true, false}
use mathlib.Core.List.{List, [], ◌∷◌}
use Prim.Native.Nat.{ℕ, ◌+◌, ◌%◌, ◌≤◌, ◌<◌}
use native.Mathlib.Omega.{arith}
use lib.ListN.{length, drop}
use lib.Seq.{get_or-take, get_or-drop}
use Rattle.prelude.proofs.Conds.{cases}
use Rattle.prelude.specs.Every.{Every}
use Rattle.bits.specs.Twelve.{Bytes}
use Rattle.record.specs.Layout.{size, frame_code}
use Rattle.record.proofs.Opened as opened
use Rattle.carriage.specs.Carriage.{types}
use Rattle.stream.specs.Filling.{packet}
use Rattle.gathering.specs.Lists.{those}
use Rattle.gathering.specs.Laying.{Rising}
use Rattle.gathering.proofs.Laying.{rising_down}
use Rattle.stream.specs.Sending.{real_time, next_real, Fate, kept, removed, extra, Sends, Kept, kept_of, reals}
use Rattle.stream.specs.Cutting.{at, type_of}

-- x is the next kept: count c, real-time number k and l lost ones come before what was sent from here on
pub record Next (c k l : ℕ) (x : Kept) : Type 0 where
  pub bytes : Bytes x.bytes
  pub sized : length x.bytes ≡ size
  pub counted : at x + l ≡ c + x.lost
  pub losing : l ≤ x.lost
  pub rising : k ≤ x.serial
  pub between : x.serial + l ≤ k + x.lost
  pub typed : real_time x.bytes ≡ true → type_of x ≡ x.serial % types

unfoldable pub Chain : ℕ → ℕ → ℕ → List Kept → Type 0
Chain c k l [] = Unit {0}
Chain c k l (x ∷ xs) = Next c k l x × Chain (at x + 1) (next_real x.serial x.bytes) x.lost xs

-- one more was sent before, and lost
loosen : (xs : List Kept) (c k k' l : ℕ) → k ≤ k' → k' ≤ k + 1 → Chain (c + 1) k' (l + 1) xs → Chain c k l xs
unfolding Chain
loosen [] c k k' l p q h = tt
loosen (x ∷ xs) c k k' l p q h =
    let n = h.0 in (
      record {
        bytes = n.bytes;
        sized = n.sized;
        counted = omega arith;
        losing = omega arith;
        rising = omega arith;
        between = omega arith;
        typed = n.typed;
      },
      h.1,
    )

next_near : (k : ℕ) (r : List ℕ) → (k ≤ next_real k r) × (next_real k r ≤ k + 1)
next_near k r = cases (real_time r) (λ e. rw e (omega arith, omega arith)) (λ e. rw e (omega arith, omega arith))

pub chain : (xs : List Fate) (c k l : ℕ) → Sends c k xs → Chain c k l (kept_of c k l xs)
unfolding Chain Sends kept_of
chain [] c k l h = tt
chain (extra x ∷ xs) c k l h = chain xs c k l h
chain (removed r ∷ xs) c k l h =
    let n = next_near k r in
    loosen (kept_of (c + 1) (next_real k r) (l + 1) xs) c k (next_real k r) l n.0 n.1 (chain xs (c + 1) (next_real k r) (l + 1) h.1)
chain (kept r ∷ xs) c k l h =
    let p = h.0 in (
      record {
        bytes = p.bytes;
        sized = opened.sized r p.passes;
        counted = omega arith;
        losing = omega arith;
        rising = omega arith;
        between = omega arith;
        typed = p.typed;
      },
      chain xs (c + 1) (next_real k r) l h.1,
    )

-- a kept real-time record: its number gives its type, and its Frame Code is a byte
pub record Typed (f : Kept) : Type 0 where
  pub typed : type_of f ≡ f.serial % types
  pub small : type_of f < types
  pub code : frame_code (packet f) < 256

code_below : (f : Kept) → Bytes f.bytes → frame_code (packet f) < 256
code_below f b = let e = get_or-take 168 (drop 286 f.bytes) 0 0 (omega arith) ∙ get_or-drop 286 f.bytes 0 0 in rw e (b 286)

pub all_typed : (xs : List Kept) (c k l : ℕ) → Chain c k l xs → Every Typed (reals xs)
unfolding Chain Every those
all_typed [] c k l h = tt
all_typed (x ∷ xs) c k l h = go (real_time x.bytes) refl (all_typed xs (at x + 1) (next_real x.serial x.bytes) x.lost h.1)
  where
    n : Next c k l x
    n = h.0

    go : (t : Bool) → real_time x.bytes ≡ t → Every Typed (reals xs) → Every Typed (reals (x ∷ xs))
    go true e r = rw e (record { typed = n.typed e; small = omega (arith, n.typed e); code = code_below x n.bytes }, r)
    go false e r = rw e r

-- counts rise, and the real-time numbers
unfoldable pub serial : Kept → ℕ
serial f = f.serial

pub rising_counts : (xs : List Kept) (c k l : ℕ) → Chain c k l xs → Rising at c xs
unfolding Chain Rising
rising_counts [] c k l h = tt
rising_counts (x ∷ xs) c k l h = (omega arith, rising_counts xs (at x + 1) (next_real x.serial x.bytes) x.lost h.1)

pub rising_serials : (xs : List Kept) (c k l : ℕ) → Chain c k l xs → Rising serial k (reals xs)
unfolding Chain Rising those serial
rising_serials [] c k l h = tt
rising_serials (x ∷ xs) c k l h = go (real_time x.bytes) refl (rising_serials xs (at x + 1) (next_real x.serial x.bytes) x.lost h.1)
  where
    go : (t : Bool) → real_time x.bytes ≡ t → Rising serial (next_real x.serial x.bytes) (reals xs) → Rising serial k (reals (x ∷ xs))
    go true e r = rw e (h.0.rising, rw e at r)
    go false e r = rw e (rising_down serial (reals xs) k x.serial h.0.rising (rw e at r))
