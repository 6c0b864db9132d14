-- `state::deciding::accept`: what each part answers is what the decision says of it.
-- Assumes nothing.
use Rattle.major.proofs.Parts.{any_range}
use Rattle.state.specs.Deciding.{acceptance}
use Rattle.state.proofs.Facts.{accumulation_here, major_here, snapshot_here}
use Rattle.state.proofs.deciding.accept.Goals as goal

pub returns : goal.returns
unfolding acceptance
returns c =
    let a = c.args in
    let cells = rw c.carries_science-science.ensures at c.step-cells.ensures in
    let samples = any_range _ _ _ _ _ a.range (rw (c.then_some-mag.ensures, c.carries_mag.ensures) at c.step-samples.ensures) in
    let bursts = rw c.first_burst-one.ensures at c.step-bursts.ensures in
    rw (
      c.accepted.ensures,
      accumulation_here a.state a.f a.d c.requires c.step-cells.result cells,
      major_here a.state a.f a.d c.requires a.range c.step-samples.result samples,
      snapshot_here a.state a.f a.d c.requires c.step-bursts.result bursts,
    )
