-- Numbered rules, "checked in this order; the first that fails is given" (01, "Numbers a refused record gets"), of anything.
-- Assumes nothing.
use Rattle.std.specs.Prelude.{ℕ, ◌<◌, ◌↔◌, Bool, true, false, not, cond, ◌&&◌, ◌||◌, List, [], ◌∷◌, ◌≡◌, eqb}

-- a rule's number, and its test, true where the rule holds
pub record Rule (A : Type 0) : Type 0 where
  pub number : ℕ
  pub holds : A → Bool

abbrev pub rule : {A : Type 0} → ℕ → (A → Bool) → Rule A
rule n t = record { number = n; holds = t }

-- rules of a part of something, as rules of the whole
unfoldable pub of_part : {A B : Type 0} → (B → A) → List (Rule A) → List (Rule B)
of_part part [] = []
of_part part (x ∷ xs) = rule x.number (λ b. x.holds (part b)) ∷ of_part part xs

-- the number of the first rule that fails, or 0
unfoldable pub first_broken : {A : Type 0} → List (Rule A) → A → ℕ
first_broken [] a = 0
first_broken (x ∷ xs) a = cond (x.holds a) (first_broken xs a) x.number

-- whether the rule of number n holds; a number that no rule has can't fail
unfoldable pub holds_in : {A : Type 0} → List (Rule A) → ℕ → A → Bool
holds_in [] n a = true
holds_in (x ∷ xs) n a = cond (eqb x.number n) (x.holds a) (holds_in xs n a)

-- whether all rules hold that stand before the one of number n in the list; where none has it, all rules
unfoldable pub before_hold : {A : Type 0} → List (Rule A) → ℕ → A → Bool
before_hold [] n a = true
before_hold (x ∷ xs) n a = eqb x.number n || (x.holds a && before_hold xs n a)

-- whether every rule holds
unfoldable pub all_hold : {A : Type 0} → List (Rule A) → A → Bool
all_hold [] a = true
all_hold (x ∷ xs) a = x.holds a && all_hold xs a

-- k is n, above 0, exactly when the rule of number n fails and all that stand before it in the list hold; k is 0 exactly when
-- every rule holds. Of `first_broken` this is proved for every list with `distinct` numbers, in whatever order they stand:
-- `first_broken_lem` in proofs/Order.antt
pub record FirstBroken {A : Type 0} (xs : List (Rule A)) (a : A) (k : ℕ) : Type 0 where
  pub fails : (n : ℕ) → ((k ≡ n) × (0 < n)) ↔ ((holds_in xs n a ≡ false) × (before_hold xs n a ≡ true))
  pub holds : (k ≡ 0) ↔ (all_hold xs a ≡ true)

-- whether no rule has number n
abbrev pub lacks : {A : Type 0} → List (Rule A) → ℕ → Bool
lacks [] n = true
lacks (x ∷ xs) n = not (eqb x.number n) && lacks xs n

-- whether no number stands twice
abbrev pub apart : {A : Type 0} → List (Rule A) → Bool
apart [] = true
apart (x ∷ xs) = lacks xs x.number && apart xs

-- no number is 0, and none stands twice
abbrev pub distinct : {A : Type 0} → List (Rule A) → Bool
distinct xs = lacks xs 0 && apart xs
