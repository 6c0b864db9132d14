-- What the code's steps lead to: where an angle of an energy step stands, and the answer about a place.
-- Assumes nothing.
use mathlib.Core.Path.{◌≡◌, refl}
use mathlib.Core.Bool.{Bool, true, cond}
use mathlib.Core.List.{List}
use Prim.Native.Nat.{ℕ, ◌+◌, ◌*◌, ◌<◌, ◌≤◌}
use native.Mathlib.Nat.{mul-le-mul_right}
use native.Mathlib.Omega.{arith}
use lib.Dec.{ltb}
use lib.ListN.{get_or}
use borrow.Author.Tests.{ltb-true}
use Rattle.std.specs.Prelude.{Some, None, Result, Err}
use Rattle.prelude.proofs.Conds.{two}
use Rattle.counts.specs.declared.Range.{Range}
use Rattle.counts.specs.declared.codes.Divided.{Divided}
use Rattle.bursts.specs.Bursts.{snapshot_size}
use Rattle.electrons.specs.Questions.{CountIs}
use Rattle.electrons.specs.declared.questions.Unknown.{Unknown}
use Rattle.electrons.specs.declared.questions.Unknown.TheVariants.{NoSuchPlace}
use Rattle.electrons.proofs.Meant.{asked_told, nowhere, no_place}
use Rattle.snapshots.specs.Questions.{asked_at, has_angle, angle_byte}
use Rattle.snapshots.specs.Raw.{holds_byte, askable}
use Rattle.snapshots.specs.Inner.Places.{raw_byte, counted_at}

-- the steps before one, 14 at most
pub steps_before : (angles e : ℕ) → e ≤ 14 → angles * e ≤ 14 * angles
steps_before angles e h = omega (arith, mul-le-mul_right angles h)

-- 15 steps that lie in the snapshot
pub angle_in_lem : (from angles e a : ℕ) → from + 15 * angles ≤ snapshot_size → has_angle angles e a ≡ true → angle_byte from angles e a < snapshot_size
angle_in_lem from angles e a l t =
    let x = two (ltb e 15) (ltb a angles) t in
    let h : e ≤ 14 = omega (arith, ltb-true e 15 x.0) in
    omega (arith, ltb-true a angles x.1, steps_before angles e h)

module _ (s : List ℕ) (held p : ℕ) (d : Divided) (t : Bool) (x : Result Range Unknown) where
  pub told : (t ≡ true → p < snapshot_size) → (q : ℕ) → cond t (Some p) None ≡ Some q → x ≡ counted_at s held q d → CountIs (asked_at t p d s held) x
  told i q e = asked_told (askable s held) (holds_byte held) (λ k. get_or s k 0) snapshot_size p d t true true i q (raw_byte s held q) x e refl

  pub none_told : cond t (Some p) None ≡ None → x ≡ Err NoSuchPlace → CountIs (asked_at t p d s held) x
  none_told e = nowhere (askable s held) t _ x refl (no_place t p e)
