-- Every count from 0 to 524,287 lies in exactly one code's range; and what a divided count's range means.
-- Assumes nothing.
use mathlib.Core.Path.{◌≡◌, refl, sym, subst}
use mathlib.Core.Bool.{Bool, true, false, cond}
use Rattle.std.specs.Prelude.{◌≢◌}
use Prim.Native.Nat.{ℕ, zero, suc, ◌+◌, ◌*◌, ◌-◌, ◌/◌, ◌<◌, ◌≤◌}
use native.Mathlib.Omega.{arith}
use native.Mathlib.Decide.{dec_lt}
use lib.Dec.{leb}
use borrow.Author.Tests.{leb-true, leb-false}
use Rattle.counts.specs.Codes.{code_low, code_high, Lies, coded_counts, OneCode, divisor, IsNoDivisor, range_of}
use Rattle.counts.specs.declared.codes.Divided.{Divided}
use Rattle.counts.specs.declared.codes.Divided.TheVariants.{By1, By8, By16}
use Rattle.counts.specs.declared.Range.{Range}
use Rattle.counts.proofs.EachCode.{code}

-- a later code's range starts past an earlier one's end
past : (c k : ℕ) → c + k < 256 → code_high c < code_low (suc (c + k))
past c zero h = let e : c + 0 ≡ c = omega arith in subst (λ n. code_high c < code_low (suc n)) (sym e) (omega (arith, (code c (omega arith)).next))
past c (suc k) h =
    let e : c + suc k ≡ suc (c + k) = omega arith in
    let n = code (suc (c + k)) (omega arith) in
    subst (λ (n : ℕ). code_high c < code_low (suc n)) (sym e) (omega (arith, past c k (omega arith), n.next))

apart : (c d n : ℕ) → d < 256 → n ≤ code_high c → code_low d ≤ n → c < d → ⊥
apart c d n h u l k =
    let e : suc (c + (d - suc c)) ≡ d = omega arith in
    let p = subst (λ (x : ℕ). code_high c < code_low x) e (past c (d - suc c) (omega arith)) in
    omega arith

once : (c d n : ℕ) → c < 256 → d < 256 → Lies c n → Lies d n → c ≡ d
once c d n hc hd p q = go (dec_lt c d) (dec_lt d c)
  where
    go : Dec (c < d) → Dec (d < c) → c ≡ d
    go (yes k) r = absurd (apart c d n hd p.1 q.0 k)
    go (no k) (yes r) = absurd (apart d c n hc q.1 p.0 r)
    go (no k) (no r) = omega arith

-- the highest code up to c whose range starts at or below n
abbrev up_to : ℕ → ℕ → ℕ
up_to zero n = 0
up_to (suc c) n = cond (leb (code_low (suc c)) n) (suc c) (up_to c n)

start : code_low 0 ≡ 0
unfolding code_low
start = refl

end : code_low 256 ≡ coded_counts
unfolding code_low
end = refl

abbrev Found : ℕ → ℕ → Type 0
Found c n = Lies (up_to c n) n × (up_to c n ≤ c)

found : (c n : ℕ) → c < 256 → n < code_low (suc c) → Found c n
found zero n h l = ((omega (arith, start), omega (arith, (code 0 h).next)), omega arith)
found (suc c) n h l = go (leb (code_low (suc c)) n) refl (found c n (omega arith))
  where
    go : (b : Bool) → leb (code_low (suc c)) n ≡ b → (n < code_low (suc c) → Found c n) → Found (suc c) n
    go true e r = rw e ((leb-true (code_low (suc c)) n e, omega (arith, (code (suc c) h).next)), omega arith)
    go false e r = let q = r (leb-false (code_low (suc c)) n e) in rw e (q.0, omega arith)

pub one_code : (n : ℕ) → n < coded_counts → OneCode n
one_code n h =
    let f = found 255 n (omega arith) (omega (arith, end)) in
    let b : up_to 255 n < 256 = omega (arith, f.1) in
    record { code = up_to 255 n; byte = b; lies = f.0; only = λ c k l. once c (up_to 255 n) n k b l f.0 }

-- a count lies in the range of a divided code exactly when the count, divided and cut off, lies in the code's own range
-- ("pre-scaled data is also not rounded but truncated", 000, section 2.6)
abbrev In : ℕ → Range → Type 0
In x r = (r.low ≤ x) × (x ≤ r.high)

pub divided_in : (x c : ℕ) (d : Divided) → In x (range_of c d) → Lies c (x / divisor d)
unfolding divisor range_of
divided_in x c By1 h = omega arith
divided_in x c By8 h = omega arith
divided_in x c By16 h = omega arith

pub in_divided : (x c : ℕ) (d : Divided) → Lies c (x / divisor d) → In x (range_of c d)
unfolding divisor range_of
in_divided x c By1 h = omega arith
in_divided x c By8 h = omega arith
in_divided x c By16 h = omega arith

-- a number other than the three
pub no_divisor : (n : ℕ) → n ≢ 1 → n ≢ 8 → n ≢ 16 → IsNoDivisor n
unfolding divisor
no_divisor n h k l By1 e = h (sym e)
no_divisor n h k l By8 e = k (sym e)
no_divisor n h k l By16 e = l (sym e)

-- the products are far below 64 bits
few : (d : Divided) → (1 ≤ divisor d) × (divisor d ≤ 16)
unfolding divisor
few By1 = (omega arith, omega arith)
few By8 = (omega arith, omega arith)
few By16 = (omega arith, omega arith)

pub some_divided : (d : Divided) → 1 ≤ divisor d
some_divided d = (few d).0

small : (d : Divided) (n : ℕ) → n < coded_counts → divisor d * n < 8388608
unfolding divisor
small By1 n h = omega arith
small By8 n h = omega arith
small By16 n h = omega arith

pub low_product : (d : Divided) (c : ℕ) → c < 256 → divisor d * code_low c < 8388608
low_product d c h = small d (code_low c) (omega (arith, (code c h).full, (code c h).small))

pub high_product : (d : Divided) (c : ℕ) → c < 256 → divisor d * code_high c + divisor d < 8388625
high_product d c h = omega (arith, small d (code_high c) (code c h).small, few d)

pub ruleset products = (some_divided, low_product, high_product)
