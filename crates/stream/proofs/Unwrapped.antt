-- Demand 3 of a stream that doesn't wrap.
-- Assumes nothing.
use mathlib.Core.Path.{◌≡◌}
use mathlib.Core.List.{List, [], ◌∷◌}
use Prim.Native.Nat.{ℕ, ◌+◌, ◌<◌}
use native.Mathlib.Omega.{arith}
use Rattle.prelude.specs.Every.{Every}
use Rattle.clock.specs.Clock.{circle, full_counts, own_of}
use Rattle.stream.specs.Sending.{sent_count, next_real, Fate, kept, removed, extra, sent_many, Unwrapped, Kept, kept_of, unspoiled}
use Rattle.stream.specs.Cutting.{at}
use Rattle.stream.specs.Law.{UnwrappedLaw}
use Rattle.gathering.proofs.Members.{In, every_in, in_every}
use Rattle.stream.proofs.Leading.{own_counts}
use Rattle.stream.proofs.Law.{law}

-- every count stays below 2^24
small_kept : (xs : List Fate) (c k l : ℕ) → Unwrapped c xs → Every (λ f. at f < circle) (kept_of c k l xs)
unfolding sent_many kept_of Every
small_kept [] c k l h = tt
small_kept (kept r ∷ xs) c k l h = (omega arith, small_kept xs (c + 1) (next_real k r) l (omega arith))
small_kept (removed r ∷ xs) c k l h = small_kept xs (c + 1) (next_real k r) (l + 1) (omega arith)
small_kept (extra x ∷ xs) c k l h = small_kept xs c k l h

small_left : (xs : List Fate) (c k : ℕ) → Unwrapped c xs → Every (λ f. at f < circle) (unspoiled c k xs)
unfolding sent_many unspoiled Every
small_left [] c k h = tt
small_left (kept r ∷ xs) c k h = small_kept (kept r ∷ xs) (own_of c) k 0 (unfold sent_many in omega arith)
small_left (removed r ∷ xs) c k h = small_left xs (c + 1) (next_real k r) (omega arith)
small_left (extra x ∷ xs) c k h = small_left xs c k h

pub unwrapped : UnwrappedLaw
unwrapped xs b c k t sent whole near right refused allowed =
    let ks = unspoiled c k xs in
    let small : (f : Kept) → In f ks → at f < circle = λ f i. every_in (λ x. at x < circle) ks f (small_left xs c k whole) i in
    let within = in_every (λ x. at x < full_counts) ks (λ f i. omega (arith, small f i)) in
    let own : (f : Kept) → In f ks → sent_count f.bytes ≡ own_of (at f) =
    λ f i. every_in (λ x. sent_count x.bytes ≡ own_of (at x)) ks f (own_counts xs c k sent) i in
    let d = law xs b c k t (record { sent = sent; near = near; within = within; right = right; refused = refused }) allowed in
    (d.0, d.1, in_every (λ x. sent_count x.bytes ≡ at x) ks (λ f i. omega (arith, own f i, small f i)))
