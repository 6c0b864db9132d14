-- What stands where in a list that another was laid over, for any element type.
-- Assumes nothing.
use mathlib.Core.Path.{◌≡◌, sym, ap, ◌∙◌}
use mathlib.Core.Bool.{Bool, true, false, not}
use mathlib.Core.List.{List, [], ◌++◌, append_assoc, append-nil}
use Prim.Native.Nat.{ℕ, ◌+◌, ◌-◌, ◌<◌, ◌≤◌}
use native.Mathlib.Nat.{add_assoc, add-zero}
use native.Mathlib.Omega.{arith}
use lib.Dec.{leb}
use lib.ListN.{length, get_or, take, drop, length-append, length-drop, take-append-drop, drop_of_length-le, get_or-append}
use lib.Seq.{length-take-le, take_at, drop_at, take-add, take-take, drop-append-le, drop-drop, get_or-append-add, get_or-take, get_or-drop}
use borrow.Author.Tests.{le-leb, lt-leb, eq-eqb, leb-true, leb-false, not-true, not-false}
use Rattle.prelude.proofs.Conds.{cases}
use Rattle.buffers.specs.Copying.{copied}
use Rattle.buffers.specs.Laying.{patch, has_room, laid}

module _ {ℓ} {A : Type ℓ} where
  -- what the test for room tells
  pub has_room_lem : (d : List A) (at n : ℕ) (b : Bool) → b ≡ has_room (length d) at n → not b ≡ false → at + n ≤ length d
  has_room_lem d at n b e h = leb-true (at + n) (length d) (sym e ∙ not-false b h)

  pub no_room : (d : List A) (at n : ℕ) (b : Bool) → b ≡ has_room (length d) at n → not b ≡ true → length d < at + n
  no_room d at n b e h = leb-false (at + n) (length d) (sym e ∙ not-true b h)

  -- inside, and not
  pub laid_in : (s d : List A) (at : ℕ) → at + length s ≤ length d → laid s d at ≡ patch d at s
  laid_in s d at h = rw le-leb

  pub laid_out : (s d : List A) (at : ℕ) → length d < at + length s → d ≡ laid s d at
  laid_out s d at h = rw lt-leb

  module _ (d : List A) (at : ℕ) (s : List A) (h : at + length s ≤ length d) where
    front : length (take at d) ≡ at
    front = length-take-le at d (omega arith)

    rest : List A
    rest = s ++ drop (at + length s) d

    pub length_patch : length (patch d at s) ≡ length d
    unfolding patch
    length_patch = simp (length-append, length-drop, front) (omega arith)

    pub patch_left : (p : ℕ) (z : A) → p < at → get_or (patch d at s) p z ≡ get_or d p z
    unfolding patch
    patch_left p z l = get_or-append (take at d) (s ++ drop (at + length s) d) z p (omega (arith, front)) ∙ get_or-take at d p z l

    pub patch_in : (j : ℕ) (z : A) → j < length s → get_or (patch d at s) (at + j) z ≡ get_or s j z
    unfolding patch
    patch_in j z l = cc (front, get_or-append-add (take at d) (s ++ drop (at + length s) d) j z, get_or-append s (drop (at + length s) d) z j l)

    past : (r : ℕ) (z : A) → get_or (patch d at s) (at + (length s + r)) z ≡ get_or d (at + length s + r) z
    unfolding patch
    past r z = cc (
      front,
      get_or-append-add (take at d) (s ++ drop (at + length s) d) (length s + r) z,
      get_or-append-add s (drop (at + length s) d) r z,
      get_or-drop (at + length s) d r z,
    )

    pub patch_right : (p : ℕ) (z : A) → at + length s ≤ p → get_or (patch d at s) p z ≡ get_or d p z
    patch_right p z l =
        let r = p - (at + length s) in
        let e : at + (length s + r) ≡ p = omega arith in
        let f : at + length s + r ≡ p = omega arith in
        ap (λ q. get_or (patch d at s) q z) (sym e) ∙ past r z ∙ ap (λ q. get_or d q z) f

  pub length_laid : (s d : List A) (at : ℕ) → length (laid s d at) ≡ length d
  length_laid s d at =
      cases (leb (at + length s) (length d))
      (λ e. rw e (length_patch d at s (leb-true (at + length s) (length d) e)))
      (λ e. rw e)

  -- nothing laid over a list
  pub patch_none : (d : List A) (at : ℕ) → patch d at [] ≡ d
  unfolding patch
  patch_none d at = rw (add-zero at) (take-append-drop at d)

  -- one list laid over another, and then a second after it
  pub patch_then : (d : List A) (at : ℕ) (s t : List A) → at + length s ≤ length d → patch (patch d at s) (at + length s) t ≡ patch d at (s ++ t)
  unfolding patch
  patch_then d at s t h =
      let m = at + length s in
      let a = take at d ++ s in
      let r = drop m d in
      let x = take at d ++ (s ++ r) in
      let e = sym (append_assoc (take at d) s r) in
      let l = length-append (take at d) s ∙ ap (λ (n : ℕ). n + length s) (front d at s h) in
      let f = ap (take m) e ∙ take_at a r m l in
      let g =
      sym (drop-drop (length t) m x) ∙ ap (λ (y : List A). drop (length t) (drop m y)) e ∙ ap (drop (length t)) (drop_at a r m l) ∙ drop-drop (length t) m d in
      let k = add_assoc at (length s) (length t) ∙ ap (λ (n : ℕ). at + n) (sym (length-append s t)) in
      ap (λ (y : List A). y ++ (t ++ drop (m + length t) x)) f
      ∙ ap (λ (y : List A). a ++ (t ++ y)) g
      ∙ append_assoc (take at d) s (t ++ drop (m + length t) d)
      ∙ ap (λ (y : List A). take at d ++ y) (sym (append_assoc s t (drop (m + length t) d)))
      ∙ ap (λ (n : ℕ). take at d ++ ((s ++ t) ++ drop n d)) k

  -- one list laid over the whole of another is copied to it
  pub laid_whole : (s d : List A) → length s ≡ length d → laid s d 0 ≡ copied s d
  unfolding patch
  laid_whole s d e =
      let n = drop_of_length-le d {i = 0 + length s} (omega arith) in
      laid_in s d 0 (omega arith) ∙ ap (λ (x : List A). s ++ x) n ∙ append-nil s ∙ rw (eq-eqb (length s) (length d) e)

  -- what was laid into a part is laid over the whole, further on
  pub part_laid : (s d : List A) (a n at : ℕ) (ys : List A) → a + n ≤ length d → at + length s ≤ n → ys ≡ laid s (take n (drop a d)) at
      → take a d ++ (ys ++ drop n (drop a d)) ≡ laid s d (a + at)
  unfolding patch
  part_laid s d a n at ys h k q =
      let b = drop a d in
      let m = at + length s in
      let l = length-take-le n b (simp length-drop (omega arith)) in
      let r = drop m (take n b) in
      let g = take-take at n b (omega arith) in
      let c = q ∙ laid_in s (take n b) at (omega (arith, l)) ∙ ap (λ (x : List A). x ++ (s ++ r)) g in
      let e = sym (drop-append-le m (take n b) (drop n b) (omega (arith, l))) ∙ ap (drop m) (take-append-drop n b) in
      let f = append_assoc s r (drop n b) ∙ ap (λ (x : List A). s ++ x) e in
      ap (λ (x : List A). take a d ++ (x ++ drop n b)) c
      ∙ ap (λ (x : List A). take a d ++ x) (append_assoc (take at b) (s ++ r) (drop n b) ∙ ap (λ (x : List A). take at b ++ x) f)
      ∙ sym (append_assoc (take a d) (take at b) (s ++ drop m b))
      ∙ ap (λ (x : List A). x ++ (s ++ drop m b)) (sym (take-add a at d))
      ∙ ap (λ (x : List A). take (a + at) d ++ (s ++ x)) (drop-drop m a d ∙ ap (λ (x : ℕ). drop x d) (sym (add_assoc a at (length s))))
      ∙ sym (laid_in s d (a + at) (omega arith))
