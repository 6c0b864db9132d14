-- Demand 3, whole.
-- Assumes nothing.
use Rattle.state.specs.Soundness.{fresh}
use Rattle.stream.specs.Running.{Reader, trace_of}
use Rattle.stream.specs.Sending.{fed}
use Rattle.stream.specs.Law.{DemandLaw, Keeps, Meets}
use Rattle.stream.proofs.Runs.{traced}
use Rattle.stream.proofs.Demand.{demand_3}
use Rattle.stream.proofs.Once.{once_each}

pub law : DemandLaw
law xs b c k t w a = (demand_3 xs b c k t w a, once_each xs b c k t w a)

-- any reader that keeps the promises meets it
pub meets : (R : Reader) → Keeps R → Meets R
meets R h xs b c k w = law xs b c k (trace_of R fresh b (fed xs)) w (traced R h (fed xs) fresh b)
