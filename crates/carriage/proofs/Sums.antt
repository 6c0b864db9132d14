-- 01's sums of the layout, and the types that carry the header.
-- Assumes nothing.
use mathlib.Core.Path.{◌≡◌, refl}
use Prim.Native.Nat.{◌+◌, ◌*◌}
use Rattle.carriage.specs.Carriage.{types, science_size, cells, sample_size, samples_in, samples_before, three_d, rows, carrier}

-- "2,988 cells = 36 x 83: header 4, pitch-angle samples 104 x 16 = 1,664, 3D 15 x 88 = 1,320"
pub all_cells : types * science_size ≡ cells
all_cells = refl

pub all_samples : samples_before 15 ≡ 104
unfolding samples_in
all_samples = refl

pub samples_end : 4 + sample_size * samples_before 15 ≡ three_d
unfolding samples_in
samples_end = refl

pub three_end : three_d + 15 * 88 ≡ cells
three_end = refl

-- "Header bytes 0-2" ride in type 0, "Header byte 3" in type 1 (000, section 2.3): the version byte, the pre-scale state, Total; Rate
pub version_rides : carrier 0 ≡ 0
unfolding carrier rows samples_in
version_rides = refl

pub state_rides : carrier 1 ≡ 0
unfolding carrier rows samples_in
state_rides = refl

pub total_rides : carrier 2 ≡ 0
unfolding carrier rows samples_in
total_rides = refl

pub rate_rides : carrier 3 ≡ 1
unfolding carrier rows samples_in
rate_rides = refl
