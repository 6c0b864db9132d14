-- `carriage::carriers::rest_carrier` meets its contract: the turn of the ladder that holds gives the type.
-- Assumes nothing.
use Rattle.std.proofs.Common.{◌*◌, ◌/◌, ◌%◌, ◌∙◌, arith}
use Rattle.carriage.proofs.Finding.{rest_9, rest_28, rest_283, rest_286, rest_305, rest_662}
use Rattle.carriage.proofs.EachCell.{rest_is}
use Rattle.carriage.proofs.carriers.rest_carrier.Goals as goal

pub returns-then-y-lt9 : goal.returns-then-y-lt9
returns-then-y-lt9 c =
    let x = c.args.x in
    rest_9 (18 * (x / 662)) (x % 662) (omega arith) ∙ rest_is x c.requires

pub returns-then-y-lt28 : goal.returns-then-y-lt28
returns-then-y-lt28 c =
    let x = c.args.x in
    rest_28 (18 * (x / 662)) (x % 662) (omega arith) (omega arith) ∙ rest_is x c.requires

pub returns-then-y-lt283 : goal.returns-then-y-lt283
returns-then-y-lt283 c =
    let x = c.args.x in
    rest_283 (18 * (x / 662)) (x % 662) (omega arith) (omega arith) (omega arith) ∙ rest_is x c.requires

pub returns-then-y-lt286 : goal.returns-then-y-lt286
returns-then-y-lt286 c =
    let x = c.args.x in
    rest_286 (18 * (x / 662)) (x % 662) (omega arith) (omega arith) (omega arith) (omega arith) ∙ rest_is x c.requires

pub returns-then-y-lt305 : goal.returns-then-y-lt305
returns-then-y-lt305 c =
    let x = c.args.x in
    rest_305 (18 * (x / 662)) (x % 662) (omega arith) (omega arith) (omega arith) (omega arith) (omega arith) ∙ rest_is x c.requires

pub returns : goal.returns
returns c =
    let x = c.args.x in
    rest_662 (18 * (x / 662)) (x % 662) (omega arith) (omega arith) (omega arith) (omega arith) (omega arith) ∙ rest_is x c.requires
