-- What each element of a list has: where two lists are joined, and what follows from it.
-- Assumes nothing.
use mathlib.Core.List.{List, [], ◌∷◌, ◌++◌}
use Rattle.prelude.specs.Every.{Every}

module _ {A : Type 0} (P : A → Type 0) where
  pub every_apart : (xs ys : List A) → Every P (xs ++ ys) → Every P xs × Every P ys
  unfolding Every
  every_apart [] ys h = (tt, h)
  every_apart (x ∷ xs) ys h = let r = every_apart xs ys h.1 in ((h.0, r.0), r.1)

  pub every_joined : (xs ys : List A) → Every P xs → Every P ys → Every P (xs ++ ys)
  unfolding Every
  every_joined [] ys h k = k
  every_joined (x ∷ xs) ys h k = (h.0, every_joined xs ys h.1 k)

pub every_map : {A : Type 0} (P Q : A → Type 0) → ((x : A) → P x → Q x) → (xs : List A) → Every P xs → Every Q xs
unfolding Every
every_map P Q f [] h = tt
every_map P Q f (x ∷ xs) h = (f x h.0, every_map P Q f xs h.1)
