-- `bits::words::word16`: a word of 2 bytes fits.
-- Assumes nothing.
use Rattle.std.proofs.Common.{arith}
use Rattle.bits.proofs.WordBytes.{small_word}
use Rattle.bits.proofs.words.word16.Goals as goal

pub overflow_cast-result : goal.overflow_cast-result
overflow_cast-result c = record { fits = omega (arith, c.word.ensures, small_word c.args.b.now c.args.at 2) }
