-- Texts put one after another.
-- Assumes nothing.
use mathlib.Core.Path.{◌≡◌, refl, sym, ap, ◌∙◌}
use mathlib.Core.List.{List, [], ◌++◌, append_assoc}
use Prim.Native.Nat.{ℕ, ◌+◌, ◌≤◌}
use native.Mathlib.Omega.{arith}
use lib.ListN.{length, take, drop, length-append, take-append-drop}
use lib.Seq.{length-take-le, take_at, drop_at, drop-drop}
use borrow.Author.Tests.{le-leb}
use Rattle.buffers.specs.Laying.{patch}
use Rattle.listing.specs.Text.{Written}
use Rattle.listing.specs.Inner.Putting.{Puts}
use Rattle.listing.specs.declared.text.Page.{Page}

-- a text laid over the end of another is laid over as one with it
patch_then : (d : List ℕ) (at : ℕ) (s t : List ℕ) → at + length s ≤ length d → patch (patch d at s) (at + length s) t ≡ patch d at (s ++ t)
unfolding patch
patch_then d at s t h =
    let p = at + length s in
    let front = take at d ++ s in
    let l : length front ≡ p = simp length-append (omega (arith, length-take-le at d (omega arith))) in
    let e = sym (append_assoc (take at d) s (drop p d)) in
    let a = ap (take p) e ∙ take_at front (drop p d) p l in
    let b =
    sym (drop-drop (length t) p (take at d ++ (s ++ drop p d)))
    ∙ ap (drop (length t)) (ap (drop p) e ∙ drop_at front (drop p d) p l)
    ∙ drop-drop (length t) p d in
    let n : p + length t ≡ at + length (s ++ t) = simp length-append (omega arith) in
    ap (λ x. x ++ (t ++ drop (p + length t) (take at d ++ (s ++ drop p d)))) a
    ∙ ap (λ (x : List ℕ). front ++ (t ++ x)) (b ∙ ap (λ (k : ℕ). drop k d) n)
    ∙ append_assoc (take at d) s (t ++ drop (at + length (s ++ t)) d)
    ∙ ap (λ (x : List ℕ). take at d ++ x) (sym (append_assoc s t (drop (at + length (s ++ t)) d)))

-- no text
pub page_none : (p : Page) → p.made ≤ length p.bytes.now → Puts p [] p
unfolding patch
page_none p h =
    let at = p.made in
    let d = p.bytes.now in
    let e : at + 0 ≡ at = omega arith in
    record {
      same = refl;
      content = sym (ap (λ k. take at d ++ drop k d) e ∙ take-append-drop at d);
      place = sym e;
      fits = omega arith;
      size = refl;
    }

-- one text after another
pub page_then : {p q r : Page} {s t : List ℕ} → Puts p s q → Puts q t r → Puts p (s ++ t) r
page_then {p} {q} {r} {s} {t} x y = record {
  same = y.same ∙ x.same;
  content =
      y.content
      ∙ ap (λ d. patch d q.made t) x.content
      ∙ ap (λ k. patch (patch p.bytes.now p.made s) k t) x.place
      ∙ patch_then p.bytes.now p.made s t x.fits;
  place = omega (arith, x.place, y.place, length-append s t);
  fits = omega (arith, x.place, x.size, y.fits, length-append s t);
  size = y.size ∙ x.size;
}

-- the buffer of the page, where the lent one became it
pub is_written : {p q : Page} {s e : List ℕ} (room : ℕ) → p.made + room ≤ length p.bytes.now → Puts p s q → e ≡ q.bytes.now
    → Written room s p.bytes.now p.made e q.made
is_written room h x y = record { content = rw le-leb (y ∙ x.content); place = rw le-leb x.place }
