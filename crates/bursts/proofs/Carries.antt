-- One computed test over the table: packet t carries the 82 bytes from 82 (t - 36) on, in order. So each of the 1,640 is one
-- packet's, once.
-- Assumes nothing.
use mathlib.Core.Path.{◌≡◌, subst, ◌∙◌}
use mathlib.Core.Bool.{Bool}
use Prim.Native.Nat.{ℕ, ◌+◌, ◌-◌, ◌%◌, ◌<◌, ◌≤◌}
use native.Mathlib.Omega.{arith}
use lib.Dec.{T, eqb, eqb→eq}
use Rattle.prelude.specs.Upto.{both, upto}
use Rattle.prelude.proofs.Upto.{both_left, both_right, upto_at, is_true}
use Rattle.carriage.specs.Carriage.{total_size}
use Rattle.bursts.specs.Bursts.{first_packet, packets, burst_size, snapshot_size, rows, row_of, all_in_part, runs_of}
use Rattle.bursts.specs.Bursts.{place, packet_place, carrier_of, Carried, Once}

is_in_order : ℕ → ℕ → Bool
is_in_order t k = eqb (place t k) (packet_place t + k)

-- the row of type t: its type, its items in their parts, 82 bytes, in order
right : ℕ → Bool
right t =
    both (eqb (row_of t).type t)
    (both (all_in_part (row_of t).items) (both (eqb (total_size (runs_of (row_of t))) burst_size) (upto (is_in_order t) burst_size)))

all_right : (i : ℕ) → i < packets → T (right (first_packet + i))
unfolding both right is_in_order place rows
all_right = upto_at (λ (i : ℕ). right (first_packet + i)) packets tt

right_carried : (t : ℕ) → T (right t) → Carried t
unfolding right is_in_order
right_carried t h =
    let a = both_right (eqb (row_of t).type t) _ h in
    let b = both_right (all_in_part (row_of t).items) _ a in
    record {
      type = eqb→eq _ _ (both_left (eqb (row_of t).type t) _ h);
      in_part = is_true _ (both_left (all_in_part (row_of t).items) _ a);
      size = eqb→eq _ _ (both_left (eqb (total_size (runs_of (row_of t))) burst_size) _ b);
      in_order = λ k l. eqb→eq _ _ (upto_at (is_in_order t) burst_size (both_right (eqb (total_size (runs_of (row_of t))) burst_size) _ b) k l);
    }

pub carried : (t : ℕ) → first_packet ≤ t → t < first_packet + packets → Carried t
carried t l h =
    let e : first_packet + (t - first_packet) ≡ t = omega arith in
    right_carried t (subst (λ (u : ℕ). T (right u)) e (all_right (t - first_packet) (omega arith)))

pub once : (p : ℕ) → p < snapshot_size → Once p
once p h = record {
  is_packet_lem = omega arith;
  is = (carried (first_packet + carrier_of p) (omega arith) (omega arith)).in_order (p % burst_size) (omega arith) ∙ omega arith;
  only = λ t k l m b e. let o = (carried t l m).in_order k b in (omega (arith, o, e), omega (arith, o, e));
}
