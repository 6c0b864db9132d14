-- The sixteen rows of the code's table against 01's lines, by one computed test: each anode and phase has one of the 88
-- angles, and every angle is met.
-- Assumes nothing.
use mathlib.Core.Path.{◌≡◌}
use mathlib.Core.Bool.{Bool, cond}
use Rattle.std.specs.Prelude.{Some}
use Prim.Native.Nat.{ℕ, zero, suc, ◌+◌, ◌/◌, ◌%◌, ◌<◌, ◌≤◌}
use native.Mathlib.Omega.{arith}
use lib.Dec.{T, eqb, ltb, eqb→eq, ltb→lt}
use lib.ListN.{get_or}
use borrow.Author.Tests.{lt-ltb}
use Rattle.prelude.specs.Upto.{both, upto}
use Rattle.prelude.proofs.Upto.{both_left, both_right, upto_at}
use Rattle.angles.specs.Angles.{lines, anode_line, angle_at, AngleIs}
use Rattle.angles.specs.declared.Anode.{Anode}
use Rattle.angles.specs.declared.TheConstants.{ANODES}

-- a row of the code's table: first angle and width
abbrev pub row_of : ℕ → Anode
row_of a = get_or ANODES a (0, 0)

-- anode a at phase p: the code's row gives the line's angle, which is one of the 88
phase : ℕ → ℕ → Bool
phase a p = both (eqb ((row_of a).0 + p / (row_of a).1) (angle_at a p)) (ltb (angle_at a p) 88)

-- an anode: its line ends with the angle printed
abbrev line : ℕ → Bool
line a = eqb (angle_at (anode_line a).last_anode 7) (anode_line a).last_angle

-- and all eight phases are right
anode : ℕ → Bool
anode a = both (line a) (upto (phase a) 8)

-- the last of n places, eight an anode, whose angle is b
abbrev last_of : ℕ → ℕ → ℕ
last_of zero b = 0
last_of (suc n) b = cond (eqb (angle_at (n / 8) (n % 8)) b) n (last_of n b)

met : ℕ → Bool
met b = both (ltb (last_of 128 b) 128) (eqb (angle_at (last_of 128 b / 8) (last_of 128 b % 8)) b)

all : T (both (upto anode 16) (upto met 88))
unfolding both anode phase met lines angle_at
all = tt

at_anode : (a : ℕ) → a < 16 → T (anode a)
at_anode a h = upto_at anode 16 (both_left (upto anode 16) (upto met 88) all) a h

-- each line ends with the angle printed
pub line_ends : (a : ℕ) → a < 16 → angle_at (anode_line a).last_anode 7 ≡ (anode_line a).last_angle
unfolding anode
line_ends a h = eqb→eq _ _ (both_left (line a) _ (at_anode a h))

at_phase : (a p : ℕ) → a < 16 → p < 8 → T (phase a p)
unfolding anode
at_phase a p h k = upto_at (phase a) 8 (both_right (line a) (upto (phase a) 8) (at_anode a h)) p k

row_right : (a p : ℕ) → a < 16 → p < 8 → (row_of a).0 + p / (row_of a).1 ≡ angle_at a p
unfolding phase
row_right a p h k = eqb→eq _ _ (both_left (eqb ((row_of a).0 + p / (row_of a).1) (angle_at a p)) _ (at_phase a p h k))

-- each anode and phase has one of the 88
pub below_88 : (a p : ℕ) → a < 16 → p < 8 → angle_at a p < 88
unfolding phase
below_88 a p h k = ltb→lt _ _ (both_right (eqb ((row_of a).0 + p / (row_of a).1) (angle_at a p)) _ (at_phase a p h k))

-- each angle is met at some anode and phase
pub record Met (b : ℕ) : Type 0 where
  pub anode : ℕ
  pub phase : ℕ
  pub is_anode : anode < 16
  pub is_phase : phase < 8
  pub is : angle_at anode phase ≡ b

pub every_angle : (b : ℕ) → b < 88 → Met b
unfolding met
every_angle b h =
    let t = upto_at met 88 (both_right (upto anode 16) (upto met 88) all) b h in
    let l : last_of 128 b < 128 = ltb→lt _ _ (both_left (ltb (last_of 128 b) 128) _ t) in
    record {
      anode = last_of 128 b / 8;
      phase = last_of 128 b % 8;
      is_anode = omega arith;
      is_phase = omega arith;
      is = eqb→eq _ _ (both_right (ltb (last_of 128 b) 128) _ t);
    }

-- what the code answers
pub at_row : (a p : ℕ) (r : Anode) → r ≡ row_of a → a < 16 → p ≤ 7 → AngleIs a p (Some (r.0 + p / r.1))
at_row a p r e h k =
    let m : p < 8 = omega arith in
    rw (lt-ltb a 16 h, lt-ltb p 8 m, e, row_right a p h m)
