-- What the types of a major frame say.
-- Assumes nothing.
use Rattle.std.specs.Prelude.{◌^◌, ◌<◌, ◌≡◌, length}
use Rattle.major.specs.declared.Major.{Major}

-- 16 ranges, 16 subcom words, MAG marks in 16 bits
pub record Shaped (m : Major) : Type 0 where
  pub ranges : length m.ranges ≡ 16
  pub words : length m.words ≡ 16
  pub mags : m.mag_slots < 2 ^ 16
