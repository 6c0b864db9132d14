-- The words for a number: how many bytes they are at most, and that a number past the rows has none.
-- Assumes nothing.
use mathlib.Core.Path.{◌≡◌, sym, ap}
use mathlib.Core.List.{[]}
use Prim.Native.Nat.{ℕ, ◌<◌, ◌≤◌}
use native.Mathlib.Omega.{arith}
use lib.Dec.{ltb, leb, leb→le}
use lib.ListN.{length, length-append, get_or-eq_default}
use borrow.Author.Tests.{ltb-true, ltb-false}
use Rattle.prelude.proofs.Conds.{cases}
use Rattle.prelude.specs.Upto.{both}
use Rattle.prelude.proofs.Upto.{upto_at}
use Rattle.listing.specs.Text.{ascii}
use Rattle.listing.specs.Refusals.{words, words_of, words_size, record_place, place_size, refusal_line, refusal_size}
pub use Rattle.listing.proofs.Digits.{length_decimal}

-- the numbers that have a row, 0 among them
abbrev rows : ℕ
rows = 15

pub words_past : (rule : ℕ) → rows ≤ rule → [] ≡ words_of rule
unfolding words_of
words_past rule h = ap ascii (sym (get_or-eq_default words "" h))

row_fits : (k : ℕ) → k < rows → length (words_of k) ≤ words_size
unfolding words_of both
row_fits k h = leb→le (length (words_of k)) words_size (upto_at (λ i. leb (length (words_of i)) words_size) rows tt k h)

-- the longest
pub length_words : (rule : ℕ) → length (words_of rule) ≤ words_size
length_words rule =
    cases (ltb rule rows)
    (λ e. row_fits rule (ltb-true rule rows e))
    (λ e. rw (sym (words_past rule (ltb-false rule rows e))) (omega arith))

pub length_place : (n offset : ℕ) → length (record_place n offset) ≤ place_size
unfolding record_place
length_place n offset = simp length-append (omega (arith, length_decimal n, length_decimal offset))

-- "no line too long for its buffer, whatever the counts"
pub length_refusal : (n offset rule : ℕ) → length (refusal_line n offset rule) ≤ refusal_size
unfolding refusal_line
length_refusal n offset rule = simp length-append (omega (arith, length_place n offset, length_decimal rule, length_words rule))

pub ruleset lengths = (length_place, length_words, length_decimal)
