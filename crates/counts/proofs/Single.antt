-- One answer: any two outcomes that a promise allows are equal. (`range_of` promises an equation: `one` of prelude is its law.)
-- Assumes nothing.
use mathlib.Core.Path.{◌≡◌, refl, ap}
use Prim.Native.Nat.{ℕ}
use Rattle.std.specs.Prelude.{Option, Result, Ok, Err}
use Rattle.prelude.proofs.Single.{one}
use Rattle.counts.specs.Codes.{divisor, DividedIs}
use Rattle.counts.specs.Sums.{SumIs}
use Rattle.counts.specs.declared.Range.{Range}
use Rattle.counts.specs.declared.codes.Divided.{Divided}
use Rattle.counts.specs.declared.codes.Divided.TheVariants.{By1, By8, By16}
use Rattle.counts.specs.declared.codes.NoDivisor.{NoDivisor}

pub one_sum : (a b : Range) (s t : Option Range) → SumIs a b s → SumIs a b t → s ≡ t
one_sum a b s t x y = cc

same : (c d : Divided) → divisor c ≡ divisor d → c ≡ d
unfolding divisor
same By1 By1 e = refl
same By1 By8 e = cc
same By1 By16 e = cc
same By8 By1 e = cc
same By8 By8 e = refl
same By8 By16 e = cc
same By16 By1 e = cc
same By16 By8 e = cc
same By16 By16 e = refl

pub one_divided : (n : ℕ) (r s : Result Divided NoDivisor) → DividedIs n r → DividedIs n s → r ≡ s
one_divided n (Ok c) (Ok d) x y = ap Ok (same c d (one x y))
one_divided n (Ok c) (Err e) x y = absurd (y c x)
one_divided n (Err e) (Ok d) x y = absurd (x d y)
one_divided n (Err e) (Err f) x y = refl
