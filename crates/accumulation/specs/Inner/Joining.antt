-- What is asked of a count before frames are joined.
-- Assumes nothing.
use Rattle.std.specs.Prelude.{ℕ, ◌+◌, ◌<◌, ◌≡◌}
use Rattle.accumulation.specs.declared.Accumulation.{Accumulation}

-- count d lies after the last frame of an open accumulation and the other frames since
abbrev pub After : Accumulation → ℕ → Type 0
After a d = (a.held ≡ 0 → ⊥) → a.last_count + a.others < d
