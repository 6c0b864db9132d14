-- One answer: two outcomes of a promise that is an equation with a definition are equal.
-- Assumes nothing.
use mathlib.Core.Path.{◌≡◌, sym, ◌∙◌}

pub one {ℓ} : {A : Type ℓ} {x y a : A} → x ≡ a → y ≡ a → x ≡ y
one p q = p ∙ sym q
