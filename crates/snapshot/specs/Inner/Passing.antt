-- Records that the snapshot needn't look at.
-- Assumes nothing.
use Rattle.std.specs.Prelude.{ℕ, Bool, ◌&&◌, eqb}
use Rattle.snapshot.specs.declared.Snapshot.{Snapshot}

-- none is open and no packet comes
unfoldable pub passes_by : Snapshot → ℕ → ℕ → Bool
passes_by s one two = eqb s.held 0 && (eqb one 0 && eqb two 0)
