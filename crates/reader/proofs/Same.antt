-- A call leaves each lent buffer where it was, and so do two.
-- Assumes nothing.
use Rattle.reader.specs.Lent.{SameLent}
use Rattle.reader.specs.declared.lent.Lent.{Lent}

pub same_again : {a b c : Lent} → SameLent a b → SameLent b c → SameLent a c
same_again p q = record {
  open_cells = cc;
  finished_cells = cc;
  open_samples = cc;
  finished_samples = cc;
  open_snapshot = cc;
  first_snapshot = cc;
  second_snapshot = cc;
}
