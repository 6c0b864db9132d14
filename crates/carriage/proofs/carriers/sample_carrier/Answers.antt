-- `carriage::carriers::sample_carrier` meets its contract: the turn of the ladder that holds gives the type.
-- Assumes nothing.
use Rattle.std.proofs.Common.{◌-◌, ◌/◌, ◌∙◌, arith}
use Rattle.carriage.proofs.Finding.{sample_10, sample_12, sample_44, sample_52, sample_84, sample_88, sample_104}
use Rattle.carriage.proofs.EachCell.{sample_is}
use Rattle.carriage.proofs.carriers.sample_carrier.Goals as goal

pub returns-then-j-lt10 : goal.returns-then-j-lt10
returns-then-j-lt10 c =
    let p = c.args.p in
    sample_10 ((p - 4) / 16) (omega arith) ∙ sample_is p c.requires.0 c.requires.1

pub returns-then-j-lt12 : goal.returns-then-j-lt12
returns-then-j-lt12 c =
    let p = c.args.p in
    sample_12 ((p - 4) / 16) (omega arith) (omega arith) ∙ sample_is p c.requires.0 c.requires.1

pub returns-then-j-lt44 : goal.returns-then-j-lt44
returns-then-j-lt44 c =
    let p = c.args.p in
    c.half_spin_carrier.ensures ∙ sample_44 ((p - 4) / 16) (omega arith) (omega arith) (omega arith) ∙ sample_is p c.requires.0 c.requires.1

pub returns-then-j-lt52 : goal.returns-then-j-lt52
returns-then-j-lt52 c =
    let p = c.args.p in
    sample_52 ((p - 4) / 16) (omega arith) (omega arith) (omega arith) (omega arith) ∙ sample_is p c.requires.0 c.requires.1

pub returns-then-j-lt84 : goal.returns-then-j-lt84
returns-then-j-lt84 c =
    let p = c.args.p in
    c.half_spin_carrier-then-j-lt84.ensures
    ∙ sample_84 ((p - 4) / 16) (omega arith) (omega arith) (omega arith) (omega arith) (omega arith)
    ∙ sample_is p c.requires.0 c.requires.1

pub returns-then-j-lt88 : goal.returns-then-j-lt88
returns-then-j-lt88 c =
    let p = c.args.p in
    sample_88 ((p - 4) / 16) (omega arith) (omega arith) (omega arith) (omega arith) (omega arith) (omega arith) ∙ sample_is p c.requires.0 c.requires.1

pub returns : goal.returns
returns c =
    let p = c.args.p in
    sample_104 ((p - 4) / 16) (omega arith) (omega arith) (omega arith) (omega arith) (omega arith) (omega arith) ∙ sample_is p c.requires.0 c.requires.1
