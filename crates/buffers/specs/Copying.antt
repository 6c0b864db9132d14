-- What a copy leaves in a buffer.
-- Assumes nothing.
use Rattle.std.specs.Prelude.{cond, List, eqb, length}

-- the first list where the second is as long; else the second
abbrev pub copied {ℓ} : {A : Type ℓ} → List A → List A → List A
copied from to = cond (eqb (length from) (length to)) from to
