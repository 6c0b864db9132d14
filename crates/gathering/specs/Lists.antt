-- What is said of lists, over any elements.
-- Assumes nothing.
use Rattle.std.specs.Prelude.{◌≡◌, Bool, cond, List, [], ◌∷◌, ◌++◌, ◌⊎◌, ℕ, zero, suc, ◌+◌}
use Rattle.prelude.specs.Every.{Every}

-- some element has it
unfoldable pub Some : {A : Type 0} → (A → Type 0) → List A → Type 0
Some P [] = ⊥
Some P (x ∷ xs) = P x ⊎ Some P xs

-- exactly one element has it
unfoldable pub ExactlyOne : {A : Type 0} → (A → Type 0) → List A → Type 0
ExactlyOne P [] = ⊥
ExactlyOne P (x ∷ xs) = (P x × Every (λ y. P y → ⊥) xs) ⊎ ((P x → ⊥) × ExactlyOne P xs)

-- as many of the one as of the other, each with its own
unfoldable pub Pairwise : {A B : Type 0} → (A → B → Type 0) → List A → List B → Type 0
Pairwise P [] [] = Unit {0}
Pairwise P [] (y ∷ ys) = ⊥
Pairwise P (x ∷ xs) [] = ⊥
Pairwise P (x ∷ xs) (y ∷ ys) = P x y × Pairwise P xs ys

-- f right behind p
unfoldable pub Neighbours : {A : Type 0} → A → A → List A → Type 0
Neighbours p f [] = ⊥
Neighbours p f (x ∷ []) = ⊥
Neighbours p f (x ∷ y ∷ ys) = ((x ≡ p) × (y ≡ f)) ⊎ Neighbours p f (y ∷ ys)

-- those that pass a test
unfoldable pub those : {A : Type 0} → (A → Bool) → List A → List A
those p [] = []
those p (x ∷ xs) = cond (p x) (x ∷ those p xs) (those p xs)

-- the elements of all lists, in order
unfoldable pub flat : {A : Type 0} → List (List A) → List A
flat [] = []
flat (g ∷ gs) = g ++ flat gs

unfoldable pub sum : {A : Type 0} → (A → ℕ) → List A → ℕ
sum f [] = 0
sum f (x ∷ xs) = f x + sum f xs

-- f 0 + f 1 + .. + f (n - 1)
unfoldable pub total : (ℕ → ℕ) → ℕ → ℕ
total f zero = 0
total f (suc n) = total f n + f n

-- p and those behind it: neighbours are related
unfoldable pub Linked : {A : Type 0} → (A → A → Type 0) → A → List A → Type 0
Linked R p [] = Unit {0}
Linked R p (x ∷ xs) = R p x × Linked R x xs

-- the last of them
unfoldable pub final : {A : Type 0} → A → List A → A
final p [] = p
final p (x ∷ xs) = final x xs

-- the first of the lists, if there is one, begins with an element that p is related to
unfoldable pub Across : {A : Type 0} → (A → A → Type 0) → A → List (List A) → Type 0
Across R p [] = Unit {0}
Across R p ([] ∷ gs) = ⊥
Across R p ((x ∷ xs) ∷ gs) = R p x

-- lists, none of them empty: neighbours in one are related by R, neighbours in two by S
unfoldable pub Cut : {A : Type 0} → (A → A → Type 0) → (A → A → Type 0) → List (List A) → Type 0
Cut R S [] = Unit {0}
Cut R S ([] ∷ gs) = ⊥
Cut R S ((x ∷ xs) ∷ gs) = Linked R x xs × Across S (final x xs) gs × Cut R S gs
