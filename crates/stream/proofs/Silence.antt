-- Other records in a row that were sent and not kept, for streams by example.
-- Assumes nothing.
use native.Mathlib.Nat.{add-zero, zero-add}
use mathlib.Core.Path.{◌≡◌, refl, sym, ap, subst, subst⁻¹, ◌∙◌}
use mathlib.Core.List.{List, ◌∷◌}
use Prim.Native.Nat.{ℕ, zero, suc, ◌+◌}
use native.Mathlib.Omega.{arith}
use Rattle.stream.specs.Running.{Trace}
use Rattle.stream.specs.Sending.{next_real, Fate, removed, Sends, sent_many, fed, ExtraRefused, kept_of}
use Rattle.stream.proofs.Made.{made, other_filler, sent_filler}

-- n of them from count c on
pub lose : ℕ → ℕ → List Fate → List Fate
lose c zero xs = xs
lose c (suc n) xs = removed (made c 62) ∷ lose (c + 1) n xs

pub lose_sent : (n c k : ℕ) (xs : List Fate) → Sends (c + n) k xs → Sends c k (lose c n xs)
unfolding lose Sends
lose_sent zero c k xs s = let e : c ≡ c + 0 = omega arith in subst⁻¹ (λ d. Sends d k xs) e s
lose_sent (suc n) c k xs s =
    let e : c + suc n ≡ c + 1 + n = omega arith in
    (sent_filler c k, rw (other_filler c) (lose_sent n (c + 1) k xs (subst (λ d. Sends d k xs) e s)))

pub lose_many : (n c : ℕ) (xs : List Fate) → sent_many (lose c n xs) ≡ n + sent_many xs
unfolding lose sent_many
lose_many zero c xs = sym (zero-add (sent_many xs))
lose_many (suc n) c xs = omega (arith, lose_many n (c + 1) xs)

pub next_filler : (k c : ℕ) → next_real k (made c 62) ≡ k
next_filler k c = rw (other_filler c)

pub lose_kept : (n c k l : ℕ) (xs : List Fate) → kept_of c k l (lose c n xs) ≡ kept_of (c + n) k (l + n) xs
unfolding lose kept_of
lose_kept zero c k l xs = rw (add-zero c, add-zero l)
lose_kept (suc n) c k l xs =
    let d : c + 1 + n ≡ c + suc n = omega arith in
    let e : l + 1 + n ≡ l + suc n = omega arith in
    ap (λ j. kept_of (c + 1) j (l + 1) (lose (c + 1) n xs)) (next_filler k c) ∙ lose_kept n (c + 1) k (l + 1) xs ∙ rw (d, e)

pub lose_refused : (n c : ℕ) (xs : List Fate) (t : Trace) → ExtraRefused xs t → ExtraRefused (lose c n xs) t
unfolding lose ExtraRefused
lose_refused zero c xs t h = h
lose_refused (suc n) c xs t h = lose_refused n (c + 1) xs t h

pub lose_fed : (n c : ℕ) (xs : List Fate) → fed (lose c n xs) ≡ fed xs
unfolding lose fed
lose_fed zero c xs = refl
lose_fed (suc n) c xs = lose_fed n (c + 1) xs
