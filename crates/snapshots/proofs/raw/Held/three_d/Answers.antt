-- `snapshots::raw::Held::three_d` meets its contract.
-- Assumes nothing.
use Rattle.std.proofs.Common.{◌∙◌, sym, arith}
use Rattle.std.proofs.lemmas.Grind.{common_steps}
use Rattle.bursts.specs.Bursts.{three_part}
use Rattle.snapshots.proofs.Told.{angle_in_lem, told, none_told}
use Rattle.snapshots.proofs.raw.Held.three_d.Goals as goal

pub returns-in_err-place : goal.returns-in_err-place
returns-in_err-place c = none_told _ _ _ _ _ _ (sym c.angle_place.ensures ∙ c.in_err-place.ensures.ok_part) (grind (arith, common_steps))

pub returns : goal.returns
returns c =
    let a = c.args in
    told _ _ _ _ _ _ (angle_in_lem three_part.at 88 a.step a.angle (omega arith)) _
    (sym c.angle_place.ensures ∙ c.in_ok-place.ensures.ok_part) c.count_at.ensures
