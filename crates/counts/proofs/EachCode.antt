-- The codes, by one test a code that is computed: no range is empty, each starts right after the one before it, all are below
-- 524,288; and the shifts by which the code gets them lose nothing.
-- Assumes nothing.
use mathlib.Core.Path.{◌≡◌, ◌∙◌}
use mathlib.Core.Bool.{Bool}
use Prim.Native.Nat.{ℕ, suc, ◌+◌, ◌*◌, ◌-◌, ◌/◌, ◌%◌, ◌^◌, ◌<◌, ◌≤◌}
use lib.Dec.{T, eqb, leb, eqb→eq, leb→le}
use borrow.Author.Tests.{ne_eqb}
use Rattle.prelude.specs.Upto.{both}
use Rattle.prelude.proofs.Upto.{both_left, both_right, upto_at}
use Rattle.counts.specs.Codes.{code_low, code_high, coded_counts}

-- the n-th of a code's mantissas from 16 on, shifted
abbrev shifted : ℕ → ℕ → ℕ
shifted n c = (n + c % 16) * 2 ^ (c / 16 - 1)

right : ℕ → Bool
right c =
    both (leb (code_low c) (code_high c))
    (both (eqb (code_low (suc c)) (suc (code_high c)))
    (both (leb (suc (code_high c)) coded_counts)
    (both (eqb (shifted 16 c % 2 ^ 64) (shifted 16 c))
    (both (eqb (shifted 17 c % 2 ^ 64) (shifted 17 c)) (leb 1 (shifted 17 c))))))

all_right : (c : ℕ) → c < 256 → T (right c)
unfolding both right code_low code_high
all_right = upto_at right 256 tt

pub record Code (c : ℕ) : Type 0 where
  pub full : code_low c ≤ code_high c
  pub next : code_low (suc c) ≡ suc (code_high c)
  pub small : code_high c < coded_counts
  pub low_kept : shifted 16 c % 2 ^ 64 ≡ shifted 16 c
  pub high_kept : shifted 17 c % 2 ^ 64 ≡ shifted 17 c
  pub high_some : 1 ≤ shifted 17 c

pub code : (c : ℕ) → c < 256 → Code c
unfolding right
code c h =
    let t1 = all_right c h in
    let t2 = both_right (leb (code_low c) (code_high c)) _ t1 in
    let t3 = both_right (eqb (code_low (suc c)) (suc (code_high c))) _ t2 in
    let t4 = both_right (leb (suc (code_high c)) coded_counts) _ t3 in
    let t5 = both_right (eqb (shifted 16 c % 2 ^ 64) (shifted 16 c)) _ t4 in
    record {
      full = leb→le _ _ (both_left (leb (code_low c) (code_high c)) _ t1);
      next = eqb→eq _ _ (both_left (eqb (code_low (suc c)) (suc (code_high c))) _ t2);
      small = leb→le _ _ (both_left (leb (suc (code_high c)) coded_counts) _ t3);
      low_kept = eqb→eq _ _ (both_left (eqb (shifted 16 c % 2 ^ 64) (shifted 16 c)) _ t4);
      high_kept = eqb→eq _ _ (both_left (eqb (shifted 17 c % 2 ^ 64) (shifted 17 c)) _ t5);
      high_some = leb→le _ _ (both_right (eqb (shifted 17 c % 2 ^ 64) (shifted 17 c)) _ t5);
    }

module _ (c : ℕ) where
  -- an exponent of 0
  pub low_small : c / 16 ≡ 0 → c % 16 ≡ code_low c
  unfolding code_low
  low_small e = cc

  pub high_small : c / 16 ≡ 0 → c % 16 ≡ code_high c
  unfolding code_high
  high_small e = cc

  -- an exponent above it
  pub low_shifted : c < 256 → (c / 16 ≡ 0 → ⊥) → shifted 16 c % 2 ^ 64 ≡ code_low c
  unfolding code_low
  low_shifted h n = (code c h).low_kept ∙ rw ne_eqb

  pub high_shifted : c < 256 → (c / 16 ≡ 0 → ⊥) → shifted 17 c % 2 ^ 64 - 1 ≡ code_high c
  unfolding code_high
  high_shifted h n = rw ((code c h).high_kept, ne_eqb)

pub ruleset ends = (low_small, high_small, low_shifted, high_shifted)
