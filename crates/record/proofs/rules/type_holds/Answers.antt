-- `record::rules::type_holds`: rule 11 holds exactly when the packet's kind is a defined one.
-- Assumes nothing.
use Rattle.std.proofs.Common.{rules, ◌≡◌, sym, ap, ◌∙◌, length}
use Rattle.record.specs.Layout.{size}
use Rattle.record.proofs.Types.{eleven_told, not_undefined, defined}
use Rattle.record.proofs.rules.type_holds.Goals as goal
use Rattle.record.proofs.rules.type_holds.Goals.{in-Undefined, in_default}

pub returns : goal.returns
unfolding defined
returns c =
    let k : length c.args.r.now ≡ size = search rules in
    let told = eleven_told c.args.r.now k c.kind_of-kind.ensures.is in
    elim c.match-matches.branch [
      | in-Undefined w ↦ rw w.matches-is (ap defined (sym w.in-Undefined.is) ∙ told)
      | in_default w ↦ rw (w.matches-is, ← not_undefined _ w.in_default.not-Undefined) told
    ]
