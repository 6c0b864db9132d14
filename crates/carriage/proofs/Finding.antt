-- The type of a cell as the code finds it.
-- Assumes nothing.
use mathlib.Core.Path.{◌≡◌}
use mathlib.Core.Bool.{cond}
use Prim.Native.Nat.{ℕ, ◌+◌, ◌*◌, ◌-◌, ◌/◌, ◌%◌, ◌<◌, ◌≤◌}
use lib.Dec.{ltb}
use Rattle.carriage.specs.Inner.Carriers.{half_spin_type}
use borrow.Author.Tests.{lt-ltb, le-ltb}

-- of each sample, through the bins
abbrev pub sample_in : ℕ → ℕ
sample_in j =
    cond (ltb j 10) (18 * (j % 2))
    (cond (ltb j 12) (18 * (j % 2) + 1)
    (cond (ltb j 44) (half_spin_type (j - 12))
    (cond (ltb j 52) (18 * (j / 2 % 2) + 8 * (j % 2) + 1)
    (cond (ltb j 84) (half_spin_type (j - 52))
    (cond (ltb j 88) (18 * (j / 2 % 2) + 7 * (j % 2) + 2) (18 * (j / 2 % 2) + 8 * (j % 2) + 2))))))

-- of what stands beside the samples, header and 3D counted through
abbrev pub in_half : ℕ → ℕ → ℕ
in_half half y =
    cond (ltb y 9) (half + y / 3)
    (cond (ltb y 28) (half + 3)
    (cond (ltb y 283) (half + 4 + (y - 28) / 51)
    (cond (ltb y 286) (half + 9)
    (cond (ltb y 305) (half + 10) (half + 11 + (y - 305) / 51)))))

unfoldable pub rest_type : ℕ → ℕ
rest_type x = in_half (18 * (x / 662)) (x % 662)

unfoldable pub type_of : ℕ → ℕ
type_of p = cond (ltb p 4) (rest_type p) (cond (ltb p 1668) (sample_in ((p - 4) / 16)) (rest_type (p - 1664)))

module _ (p : ℕ) where
  pub in_header : p < 4 → type_of p ≡ rest_type p
  unfolding type_of
  in_header h = rw lt-ltb

  pub in_samples : 4 ≤ p → p < 1668 → type_of p ≡ sample_in ((p - 4) / 16)
  unfolding type_of
  in_samples l h = rw (le-ltb, lt-ltb)

  pub in_three : 4 ≤ p → 1668 ≤ p → type_of p ≡ rest_type (p - 1664)
  unfolding type_of
  in_three l h = rw (le-ltb, le-ltb)

-- the turns of the code's ladder
module _ (half y : ℕ) where
  pub rest_9 : y < 9 → half + y / 3 ≡ in_half half y
  rest_9 h = rw lt-ltb

  pub rest_28 : 9 ≤ y → y < 28 → half + 3 ≡ in_half half y
  rest_28 a h = rw (le-ltb, lt-ltb)

  pub rest_283 : 9 ≤ y → 28 ≤ y → y < 283 → half + 4 + (y - 28) / 51 ≡ in_half half y
  rest_283 a b h = rw (le-ltb, le-ltb, lt-ltb)

  pub rest_286 : 9 ≤ y → 28 ≤ y → 283 ≤ y → y < 286 → half + 9 ≡ in_half half y
  rest_286 a b c h = rw (le-ltb, le-ltb, le-ltb, lt-ltb y 286 h)

  pub rest_305 : 9 ≤ y → 28 ≤ y → 283 ≤ y → 286 ≤ y → y < 305 → half + 10 ≡ in_half half y
  rest_305 a b c d h = rw (le-ltb, le-ltb, le-ltb y 283 c, le-ltb y 286 d, lt-ltb y 305 h)

  pub rest_662 : 9 ≤ y → 28 ≤ y → 283 ≤ y → 286 ≤ y → 305 ≤ y → half + 11 + (y - 305) / 51 ≡ in_half half y
  rest_662 a b c d e = rw (le-ltb, le-ltb, le-ltb y 283 c, le-ltb y 286 d, le-ltb y 305 e)

module _ (j : ℕ) where
  pub sample_10 : j < 10 → 18 * (j % 2) ≡ sample_in j
  sample_10 h = rw lt-ltb

  pub sample_12 : 10 ≤ j → j < 12 → 18 * (j % 2) + 1 ≡ sample_in j
  sample_12 a h = rw (le-ltb, lt-ltb)

  pub sample_44 : 10 ≤ j → 12 ≤ j → j < 44 → half_spin_type (j - 12) ≡ sample_in j
  sample_44 a b h = rw (le-ltb j 10 a, le-ltb j 12 b, lt-ltb j 44 h)

  pub sample_52 : 10 ≤ j → 12 ≤ j → 44 ≤ j → j < 52 → 18 * (j / 2 % 2) + 8 * (j % 2) + 1 ≡ sample_in j
  sample_52 a b c h = rw (le-ltb, le-ltb, le-ltb, lt-ltb j 52 h)

  pub sample_84 : 10 ≤ j → 12 ≤ j → 44 ≤ j → 52 ≤ j → j < 84 → half_spin_type (j - 52) ≡ sample_in j
  sample_84 a b c d h = rw (le-ltb j 10 a, le-ltb j 12 b, le-ltb j 44 c, le-ltb j 52 d, lt-ltb j 84 h)

  pub sample_88 : 10 ≤ j → 12 ≤ j → 44 ≤ j → 52 ≤ j → 84 ≤ j → j < 88 → 18 * (j / 2 % 2) + 7 * (j % 2) + 2 ≡ sample_in j
  sample_88 a b c d e h = rw (le-ltb, le-ltb, le-ltb j 44 c, le-ltb j 52 d, le-ltb j 84 e, lt-ltb j 88 h)

  pub sample_104 : 10 ≤ j → 12 ≤ j → 44 ≤ j → 52 ≤ j → 84 ≤ j → 88 ≤ j → 18 * (j / 2 % 2) + 8 * (j % 2) + 2 ≡ sample_in j
  sample_104 a b c d e f = rw (le-ltb, le-ltb, le-ltb j 44 c, le-ltb j 52 d, le-ltb j 84 e, le-ltb j 88 f)
