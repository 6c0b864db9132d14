-- `c_records::lpmag_refusal_words`: the place after the words, and the byte of 0 among them.
-- Assumes nothing.
use Rattle.c_records.proofs.Meant.{no_meaning, meant}
use Rattle.c_records.proofs.lpmag_refusal_words.Goals as goal

pub returns-then-end-eq0 : goal.returns-then-end-eq0
returns-then-end-eq0 c =
    no_meaning c.args.number c.args.room.now _ _ c.put_meaning-end.ensures c.if-end-eq0.true

pub returns : goal.returns
returns c = meant c.args.number c.args.room.now _ _ c.put_meaning-end.ensures c.if-end-eq0.false
