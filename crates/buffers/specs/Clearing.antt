-- What clearing leaves in a buffer.
-- Assumes nothing.
use Rattle.std.specs.Prelude.{List, length, replicate}

-- as many zeros as there were elements
abbrev pub cleared {ℓ} : {A : Type ℓ} → A → List A → List A
cleared zero d = replicate (length d) zero
