-- The lent buffers as code has them: what they hold, and that a call leaves each where it was.
-- Assumes nothing.
use Rattle.std.specs.Prelude.{◌≡◌}
use Rattle.reader.specs.Buffers.{Buffers, buffers}
use Rattle.reader.specs.declared.lent.Lent.{Lent}

-- what they hold
abbrev pub held : Lent → Buffers
held l =
    buffers l.open_cells.now l.finished_cells.now l.open_samples.now l.finished_samples.now
    l.open_snapshot.now l.first_snapshot.now l.second_snapshot.now

-- each is the same caller's memory as before
pub record SameLent (l l' : Lent) : Type 0 where
  pub open_cells : l'.open_cells.ghost_name ≡ l.open_cells.ghost_name
  pub finished_cells : l'.finished_cells.ghost_name ≡ l.finished_cells.ghost_name
  pub open_samples : l'.open_samples.ghost_name ≡ l.open_samples.ghost_name
  pub finished_samples : l'.finished_samples.ghost_name ≡ l.finished_samples.ghost_name
  pub open_snapshot : l'.open_snapshot.ghost_name ≡ l.open_snapshot.ghost_name
  pub first_snapshot : l'.first_snapshot.ghost_name ≡ l.first_snapshot.ghost_name
  pub second_snapshot : l'.second_snapshot.ghost_name ≡ l.second_snapshot.ghost_name
