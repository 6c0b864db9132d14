-- `programs::input::Source::fill`: what was read lies in the room.
-- Assumes nothing.
use Rattle.std.proofs.Common.{◌≤◌, length}
use Rattle.programs.proofs.input.Source.fill.Given as goal

abbrev pub invariant-loop : goal.invariant-loop
invariant-loop l = l.got ≤ length l.room
