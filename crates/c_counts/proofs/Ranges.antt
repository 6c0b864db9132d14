-- A range given by the number that the counts were divided by; and where none were.
-- Assumes nothing.
use mathlib.Core.Path.{◌≡◌, refl, sym, ap, ◌∙◌}
use mathlib.Core.Bool.{true, false}
use Prim.Native.Nat.{ℕ}
use borrow.Author.Tests.{ne_eqb}
use Rattle.counts.specs.Codes.{divisor, IsNoDivisor, times, range_of}
use Rattle.counts.specs.declared.Range.{Range}
use Rattle.counts.specs.declared.codes.Divided.{Divided}
use Rattle.counts.specs.declared.codes.Divided.TheVariants.{By1, By8, By16}
use Rattle.c_answers.specs.Answers.{nowhere, RangeGiven}
use Rattle.c_counts.specs.Counts.{is_divisor}

is_one : (d : Divided) → is_divisor (divisor d) ≡ true
unfolding divisor
is_one By1 = refl
is_one By8 = refl
is_one By16 = refl

is_none : (n : ℕ) → IsNoDivisor n → is_divisor n ≡ false
unfolding divisor
is_none n h = rw (ne_eqb n 1 (λ e. h By1 (sym e)), ne_eqb n 8 (λ e. h By8 (sym e)), ne_eqb n 16 (λ e. h By16 (sym e)))

pub range_given : (code n : ℕ) (d : Divided) (r : Range) (low high k low' high' : ℕ) → divisor d ≡ n → r ≡ range_of code d
    → RangeGiven true 0 r low high k low' high' → RangeGiven (is_divisor n) nowhere (times n code) low high k low' high'
unfolding range_of
range_given code n d r low high k low' high' e f g =
    let s : r ≡ times n code = f ∙ ap (λ (m : ℕ). times m code) e in
    rw (ap is_divisor (sym e) ∙ is_one d, sym s) (record { number = g.number; low_written = g.low_written; high_written = g.high_written })

pub none_given : (code n low high : ℕ) → IsNoDivisor n → RangeGiven (is_divisor n) nowhere (times n code) low high nowhere low high
none_given code n low high h = rw (is_none n h) (record { number = refl; low_written = refl; high_written = refl })
