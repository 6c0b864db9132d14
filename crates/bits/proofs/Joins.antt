-- Laws of `join`: x in m bits followed by y in n bits. They hold in either order.
-- Assumes nothing.
use mathlib.Core.Path.{◌≡◌, sym, ap, ◌∙◌}
use Prim.Native.Nat.{ℕ, ◌+◌, ◌*◌, ◌/◌, ◌%◌, ◌^◌, ◌<◌}
use native.Mathlib.Nat.{add_assoc, add-mul, mul_assoc, mul_comm}
use native.Mathlib.Omega.{arith}
use lib.Arith.{digits_lt, digits_div, digits_mod}
use lib.Pow.{pow-add}
use Rattle.bits.specs.Numbers.{Order, least, most, join}

-- numbers of m and n bits joined are a number of m + n bits
pub join_below : (o : Order) (m n x y : ℕ) → x < 2 ^ m → y < 2 ^ n → join o m x n y < 2 ^ (m + n)
unfolding join
join_below least m n x y h k = rw (pow-add, mul_comm (2 ^ m) (2 ^ n)) (digits_lt k h)
join_below most m n x y h k = rw pow-add (digits_lt h k)

digits : (c q r q' r' : ℕ) → r < c → r' < c → q * c + r ≡ q' * c + r' → (q ≡ q') × (r ≡ r')
digits c q r q' r' h h' e = (
  sym (digits_div q h) ∙ ap (λ n. n / c) e ∙ digits_div q' h',
  sym (digits_mod q h) ∙ ap (λ n. n % c) e ∙ digits_mod q' h',
)

-- the joined number determines both
pub join_same : (o : Order) (m n x y x' y' : ℕ) → x < 2 ^ m → y < 2 ^ n → x' < 2 ^ m → y' < 2 ^ n
    → join o m x n y ≡ join o m x' n y' → (x ≡ x') × (y ≡ y')
unfolding join
join_same least m n x y x' y' h k h' k' e = let d = digits (2 ^ m) y x y' x' h h' e in (d.1, d.0)
join_same most m n x y x' y' h k h' k' e = digits (2 ^ n) x y x' y' k k' e

-- three in a row, joined from either side
pub join_assoc : (o : Order) (l m n x y z : ℕ) → join o (l + m) (join o l x m y) n z ≡ join o l x (m + n) (join o m y n z)
unfolding join
join_assoc least l m n x y z =
    sym (add_assoc (z * 2 ^ (l + m)) (y * 2 ^ l) x)
    ∙ ap (λ k. z * k + y * 2 ^ l + x) (pow-add 2 l m ∙ mul_comm (2 ^ l) (2 ^ m))
    ∙ ap (λ k. k + y * 2 ^ l + x) (sym (mul_assoc z (2 ^ m) (2 ^ l)))
    ∙ ap (λ k. k + x) (sym (add-mul (z * 2 ^ m) y (2 ^ l)))
join_assoc most l m n x y z =
    ap (λ k. k + z) (add-mul (x * 2 ^ m) y (2 ^ n))
    ∙ ap (λ k. k + y * 2 ^ n + z) (mul_assoc x (2 ^ m) (2 ^ n))
    ∙ ap (λ k. x * k + y * 2 ^ n + z) (sym (pow-add 2 m n))
    ∙ add_assoc (x * 2 ^ (m + n)) (y * 2 ^ n) z

-- followed by nothing
pub join_none : (o : Order) (m x : ℕ) → join o m x 0 0 ≡ x
unfolding join
join_none least m x = omega arith
join_none most m x = omega arith
