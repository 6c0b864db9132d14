-- What a raw byte leads to, of an accumulation or of a snapshot: the answer from a byte that there is, and where it may not be there.
-- Assumes nothing.
use mathlib.Core.Path.{◌≡◌, refl, sym, subst⁻¹, ◌∙◌}
use mathlib.Core.Bool.{Bool, true, false, cond, ◌&&◌, ◌||◌, and-true, and-false}
use Prim.Native.Nat.{ℕ, ◌<◌}
use lib.Dec.{ltb}
use borrow.Author.Tests.{lt-ltb}
use Rattle.std.specs.Prelude.{Some, None, Result, Err}
use Rattle.std.proofs.lemmas.Option.{cond_some}
use Rattle.counts.specs.Codes.{range_of}
use Rattle.counts.specs.declared.Range.{Range}
use Rattle.counts.specs.declared.codes.Divided.{Divided}
use Rattle.cells.specs.Bytes.{raw_of}
use Rattle.cells.specs.declared.missing.Missing.{Missing}
use Rattle.electrons.specs.Meaning.{meaning}
use Rattle.electrons.specs.Questions.{Asked, answer, count_said, CountIs}
use Rattle.electrons.specs.declared.questions.Unknown.{Unknown}
use Rattle.electrons.specs.declared.questions.Unknown.TheVariants.{NoSuchPlace}

-- the words and the range of an answer follow
abbrev pub asked : Bool → Bool → Bool → Range → Asked
asked s t u r = record { place = s; held = t; known = u; range = r }

follows : (s t u : Bool) (r : Range) → CountIs (asked s t u r) (answer (asked s t u r))
unfolding count_said
follows true true true r = record { is = refl; says = refl; range = refl }
follows true true false r = record { is = refl; says = refl; range = refl }
follows true false u r = record { is = refl; says = refl; range = refl }
follows false t u r = record { is = refl; says = refl; range = refl }

pub count_is : (q : Asked) (x : Result Range Unknown) → x ≡ answer q → CountIs q x
count_is q x e = subst⁻¹ (λ y. CountIs q y) e (follows q.place q.held q.known q.range)

-- the answer from a byte that there is: whether it may be asked for, is held, needs no scale, or has it
pub meant : (x y n h : Bool) (code : ℕ) (d : Divided)
    → meaning (raw_of x y code) (cond (n || (x && h)) (Some d) None) ≡ answer (asked x y (n || h) (range_of code d))
unfolding raw_of
meant true true true h code d = refl
meant true true false true code d = refl
meant true true false false code d = refl
meant true false n h code d = refl
meant false y n h code d = refl

-- there is no such place
pub no_place : (t : Bool) (p : ℕ) → cond t (Some p) None ≡ None → t ≡ false
no_place true p e = cc
no_place false p e = refl

pub nowhere : (a t : Bool) (q : Asked) (x : Result Range Unknown) → q.place ≡ (a && t) → t ≡ false → x ≡ Err NoSuchPlace → CountIs q x
nowhere a t q x e f ex = let g : q.place ≡ false = e ∙ rw f (and-false a) in count_is q x (ex ∙ rw g)

-- byte p of n, asked for where the test t holds: a says whether anything may be asked for, h what is held, f what the bytes are; its
-- counts were divided by d, which is known where k or u says so. The answer, from those that the callees give.
pub asked_told : (a : Bool) (h : ℕ → Bool) (f : ℕ → ℕ) (n p : ℕ) (d : Divided) (t k u : Bool) → (t ≡ true → p < n)
    → (q : ℕ) (w : Result ℕ Missing) (x : Result Range Unknown) → cond t (Some p) None ≡ Some q → w ≡ raw_of (a && ltb q n) (h q) (f q)
    → x ≡ meaning w (cond (k || (a && u)) (Some d) None) → CountIs (asked (a && t) (h p) (k || u) (range_of (f p) d)) x
asked_told a h f n p d t k u i q w x eq ew ex =
    let g = cond_some t p q eq in
    let l : p < n = i g.0 in
    count_is _ _ (ex ∙ rw (ew, sym g.1, lt-ltb p n l, g.0, and-true a) (meant a (h p) k u (f p) d))
