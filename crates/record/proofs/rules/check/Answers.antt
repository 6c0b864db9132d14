-- `record::rules::check`: rule 2 first, and then the others.
-- Assumes nothing.
use Rattle.std.proofs.Common.{◌≡◌, arith}
use Rattle.record.specs.Rules.{broken, verdict_of}
use Rattle.record.proofs.Order.{wrong_size, verdict_is}
use Rattle.record.proofs.rules.check.Goals as goal

pub returns-in_err-sized : goal.returns-in_err-sized
returns-in_err-sized c =
    let e : c.from_residual.result ≡ verdict_of (broken c.args.r.now) = grind (arith, wrong_size) in
    verdict_is c.args.r.now c.from_residual.result e

pub returns : goal.returns
returns c =
    let e : c.check_sized.result ≡ verdict_of (broken c.args.r.now) = grind arith in
    verdict_is c.args.r.now c.check_sized.result e
