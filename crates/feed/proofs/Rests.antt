-- What stands between two places, and what is left once it is brought to the front.
-- Assumes nothing.
use mathlib.Core.Path.{◌≡◌, ◌∙◌}
use mathlib.Core.Bool.{true, false}
use mathlib.Core.List.{List}
use Prim.Native.Nat.{ℕ, ◌+◌, ◌-◌, ◌<◌, ◌≤◌}
use native.Mathlib.Omega.{arith}
use lib.ListN.{length, take, drop, length-drop}
use lib.Seq.{length-take-le}
use borrow.Author.Tests.{le-leb, lt-leb}
use Rattle.std.specs.List.{copy_within}
use Rattle.buffers.specs.Laying.{patch}
use Rattle.feed.specs.Cutting.{is_in_order, RestIs}

-- what stands between has its length
pub between : (bytes : List ℕ) (from n : ℕ) → from + n ≤ length bytes → length (take n (drop from bytes)) ≡ n
between bytes from n h = length-take-le n (drop from bytes) (simp length-drop (omega arith))

module _ (bytes : List ℕ) (from to : ℕ) where
  pub in_order : to ≤ length bytes → from ≤ to → is_in_order bytes from to ≡ true
  in_order h l = rw (le-leb, le-leb)

  none_came : is_in_order bytes from to ≡ false → RestIs bytes from to bytes 0
  none_came e = record { content = rw e; number = rw e }

  -- nothing comes where the places lie past the end
  pub no_end : length bytes < to → RestIs bytes from to bytes 0
  no_end h = none_came (rw lt-leb)

  pub no_start : to ≤ length bytes → to < from → RestIs bytes from to bytes 0
  no_start h l = none_came (rw (le-leb, lt-leb))

  pub all_came : (b : List ℕ) → to ≤ length bytes → from ≤ to → b ≡ copy_within bytes from to 0 → RestIs bytes from to b (to - from)
  unfolding patch
  all_came b h l q =
      let o = in_order h l in
      let s = take (to - from) (drop from bytes) in
      let put : copy_within bytes from to 0 ≡ patch bytes 0 s = rw (between bytes from (to - from) (omega arith)) in
      record { content = q ∙ put ∙ rw o; number = rw o }
