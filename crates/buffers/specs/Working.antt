-- What is to be done to an open buffer and the finished one beside it.
-- Assumes nothing.
use Rattle.std.specs.Prelude.{Bool, false}
use Rattle.buffers.specs.declared.work.Work.{Work}

abbrev pub no_work : Work
no_work = record { copies = false; clears = false; lays = false }

-- "Closing copies the open buffer to the finished buffer ... and clears the open buffer to 0" (01, "Joining accumulations"), where
-- something is held
abbrev pub closing_work : Bool → Work
closing_work held = record { copies = held; clears = held; lays = false }
