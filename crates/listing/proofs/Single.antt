-- Each public function leaves one answer possible, and one content of the lent buffer.
-- Assumes nothing.
use mathlib.Core.Path.{◌≡◌, sym, ◌∙◌}
use mathlib.Core.List.{List}
use Prim.Native.Nat.{ℕ}
use Rattle.listing.specs.Text.{Written}

pub one_text : {room : ℕ} {text d : List ℕ} {at : ℕ} {e f : List ℕ} {p q : ℕ}
    → Written room text d at e p → Written room text d at f q → (e ≡ f) × (p ≡ q)
one_text u v = (u.content ∙ sym v.content, u.place ∙ sym v.place)
