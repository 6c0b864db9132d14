-- What is cut off at each place of the input, and how many whole records are left there.
-- Assumes nothing.
use mathlib.Core.Path.{◌≡◌, refl, sym, ap, ◌∙◌}
use mathlib.Core.Bool.{true, false}
use mathlib.Core.List.{List}
use Prim.Native.Nat.{ℕ, ◌+◌, ◌-◌, ◌<◌, ◌≤◌}
use native.Mathlib.Nat.{min-eq_left, min-eq_right}
use native.Mathlib.Omega.{arith}
use lib.ListN.{length, take, drop, length-take, length-drop, drop_of_length-le}
use lib.Seq.{length-take-le, take_all, take-nil, drop-length}
use borrow.Author.Tests.{leb-true, leb-false}
use Rattle.record.specs.Layout.{size}
use Rattle.feed.specs.Cutting.{record_at, is_whole, CutIs}
use Rattle.feed.specs.Feeding.{whole_from}

module _ (bytes : List ℕ) (at : ℕ) where
  module _ (from : ℕ × ℕ) where
    -- past the end, near it, and before
    pub cut_past : length bytes ≤ at
        → CutIs bytes from at (take (length bytes - length bytes) (drop (length bytes) bytes)) (from.0, length bytes + from.1)
    cut_past h =
        let n = length bytes - length bytes in
        record {
          content = ap (take n) (drop-length bytes) ∙ take-nil n ∙ sym (ap (take size) (drop_of_length-le bytes h));
          block = refl;
          offset = ap (λ k. k + from.1) (sym (min-eq_right h));
        }

    pub cut_short : at ≤ length bytes → length bytes - at < size
        → CutIs bytes from at (take (length bytes - at) (drop at bytes)) (from.0, at + from.1)
    cut_short h l =
        let e = length-drop at bytes in
        record {
          content = take_all (length bytes - at) (drop at bytes) (omega arith) ∙ sym (take_all size (drop at bytes) (omega arith));
          block = refl;
          offset = ap (λ k. k + from.1) (sym (min-eq_left h));
        }

    pub cut_whole : at ≤ length bytes → CutIs bytes from at (take (at + size - at) (drop at bytes)) (from.0, at + from.1)
    cut_whole h =
        let e : at + size - at ≡ size = omega arith in
        record {
          content = rw e;
          block = refl;
          offset = ap (λ k. k + from.1) (sym (min-eq_left h));
        }

  -- a record ends with the bytes, or before
  pub record_room : length (record_at bytes at) ≤ length bytes - at
  record_room = simp (length-take, length-drop) (omega arith)

  pub whole_fits : is_whole (length bytes) at ≡ true → at + size ≤ length bytes
  unfolding is_whole
  whole_fits w = leb-true (at + size) (length bytes) w

  -- a whole record has its size, and is one of the whole records left
  pub whole_size : is_whole (length bytes) at ≡ true → length (record_at bytes at) ≡ size
  whole_size w =
      let h = whole_fits w in
      length-take-le size (drop at bytes) (simp length-drop (omega arith))

  pub whole_left : is_whole (length bytes) at ≡ true → whole_from bytes at ≡ whole_from bytes (at + length (record_at bytes at)) + 1
  whole_left w = omega (arith, whole_fits w, whole_size w)

  -- else none is left
  pub none_left : is_whole (length bytes) at ≡ false → whole_from bytes at ≡ 0
  unfolding is_whole
  none_left w = omega (arith, leb-false (at + size) (length bytes) w)
