-- `record::values::record_of`: each field is its column of the label.
-- Assumes nothing.
use Rattle.std.proofs.Common.{rules, ◌≡◌, ◌∙◌, arith, length}
use Rattle.record.specs.Layout.{size}
use Rattle.record.specs.Contents.{record_of}
use Rattle.record.proofs.Columns.{word, first_is, second_is, third_is}
use Rattle.record.proofs.Opened.{packet_word}
use Rattle.record.proofs.values.record_of.Goals as goal

pub returns : goal.returns
unfolding record_of
returns c =
    let r = c.args.r.now in
    let k : length r ≡ size = search rules in
    let w = word r k in
    rw (
      c.word24.ensures ∙ w 6 3 (omega arith),
      c.word16.ensures ∙ w 456 2 (omega arith),
      c.word32.ensures ∙ w 458 4 (omega arith),
      c.word16-status.ensures ∙ w 470 2 (omega arith),
      first_is r,
      second_is r,
      third_is r,
      c.second_burst-second.ensures,
      c.kind_of-kind.ensures.is,
      c.word16-2.ensures ∙ packet_word r k 1 2 (omega arith),
      c.reading_of.ensures,
    )
