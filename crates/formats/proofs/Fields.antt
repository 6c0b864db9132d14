-- The law of each kind of part.
-- Assumes nothing.
use mathlib.Core.Bool.{Bool, true, false, cond}
use mathlib.Core.List.{List, [], ◌∷◌}
use mathlib.Core.Option.{none, some, some-injective}
use mathlib.Core.Path.{◌≡◌, refl, sym, ap, subst, ◌∙◌}
use Prim.Native.Nat.{ℕ, zero, suc, ◌+◌, ◌*◌, ◌^◌, ◌<◌}
use native.Mathlib.Omega.{arith}
use lib.Dec.{eqb, ltb}
use lib.ListN.{length, get_or}
use lib.Pow.{are_bytes}
use borrow.Author.Tests.{eqb-true, eq-eqb, ltb-true, le-leb}
use Rattle.prelude.proofs.Conds.{two}
use Rattle.bits.specs.Numbers.{Order, most, number, word_in, twelve, twelve_in}
use Rattle.bits.specs.Twelve.{Bytes}
use Rattle.bits.specs.Putting.{bytes_of}
use Rattle.bits.specs.Signed.{signed_of, unsigned_of, InSixteen, signed_in}
use Rattle.bits.specs.Pairs.{pair_bytes}
use Rattle.bits.proofs.Numbers.{below}
use Rattle.bits.proofs.BytesOf.{length_bytes, are_bytes as made_bytes, bytes_back, bytes_forth}
use Rattle.bits.proofs.WordBytes.{inside, small_word}
use Rattle.bits.proofs.SignedPut.{unsigned_small, signed_back, signed_forth, signed_fits}
use Rattle.bits.proofs.PairsPut as pairs
use Rattle.formats.specs.Part.{PartLaw}
use Rattle.formats.specs.Fields.{word, byte, signed16, pair_of, same, fixed}

-- n bytes as a word
pub exact : (b : List ℕ) (n : ℕ) → length b ≡ n → word_in b 0 n ≡ number most b 0 (8 * n)
exact b n l = sym (inside b 0 n (omega arith))

word_back : (n x : ℕ) → x < 2 ^ (8 * n) → word_in (bytes_of most n x) 0 n ≡ x
word_back n x h = exact (bytes_of most n x) n (length_bytes most n x) ∙ bytes_back most n x h

word_forth : (b : List ℕ) (n : ℕ) → length b ≡ n → Bytes b → bytes_of most n (word_in b 0 n) ≡ b
word_forth b n l h = rw (exact b n l) (bytes_forth most b n l h)

pub word_law : (n : ℕ) → PartLaw (word n)
word_law n = record {
  sized = λ x h. length_bytes most n x;
  bytes = λ x h. made_bytes most n x;
  back = λ x h. ap some (word_back n x h);
  held = λ b x l h e. rw (some-injective (word_in b 0 n) x e) at (small_word b 0 n);
  forth = λ b x l h e. ap (bytes_of most n) (sym (some-injective (word_in b 0 n) x e)) ∙ word_forth b n l h;
}

pub signed16_law : PartLaw signed16
signed16_law = record {
  sized = λ z h. length_bytes most 2 (unsigned_of z);
  bytes = λ z h. made_bytes most 2 (unsigned_of z);
  back = λ z h. ap some (ap signed_of (word_back 2 (unsigned_of z) (unsigned_small z h)) ∙ signed_back z h);
  held = λ b z l h e. subst InSixteen (some-injective (signed_in b 0) z e) (signed_fits (word_in b 0 2) (small_word b 0 2));
  forth = λ b z l h e.
      ap (λ y. bytes_of most 2 (unsigned_of y)) (sym (some-injective (signed_in b 0) z e))
      ∙ ap (bytes_of most 2) (signed_forth (word_in b 0 2) (small_word b 0 2))
      ∙ word_forth b 2 l h;
}

one_byte : (x : ℕ) → x < 256 → Bytes (x ∷ [])
one_byte x h zero = h
one_byte x h (suc i) = omega arith

byte_forth : (b : List ℕ) (x : ℕ) → length b ≡ 1 → some (get_or b 0 0) ≡ some x → x ∷ [] ≡ b
byte_forth [] x l e = cc
byte_forth (y ∷ []) x l e = cc
byte_forth (y ∷ (z ∷ b)) x l e = cc

pub byte_law : PartLaw byte
byte_law = record {
  sized = λ x h. refl;
  bytes = one_byte;
  back = λ x h. refl;
  held = λ b x l h e. rw (some-injective (get_or b 0 0) x e) at (h 0);
  forth = λ b x l h e. byte_forth b x l e;
}

-- three bytes as two numbers
pub exact_pair : (o : Order) (b : List ℕ) (k : ℕ) → k < 2 → length b ≡ 3 → twelve_in o b k ≡ twelve o b k
exact_pair o b k h l = rw (le-leb (12 * k + 12) (8 * length b) (omega arith))

pair_back : (o : Order) (v : ℕ × ℕ) → (pair_of o).Holds v → (pair_of o).read ((pair_of o).write v) ≡ some v
pair_back o v h =
    let b = pair_bytes o v.0 v.1 in
    let l = pairs.length_pair o v.0 v.1 in
    let r = pairs.pair_back o v.0 v.1 h.0 h.1 in
    rw (exact_pair o b 0 (omega arith) l, exact_pair o b 1 (omega arith) l, r.0, r.1)

pair_forth : (o : Order) (b : List ℕ) (v : ℕ × ℕ) → length b ≡ 3 → Bytes b → (pair_of o).read b ≡ some v → (pair_of o).write v ≡ b
pair_forth o b v l h e =
    let d = some-injective (twelve_in o b 0, twelve_in o b 1) v e in
    let x = sym (exact_pair o b 0 (omega arith) l) ∙ ap (λ u. u.0) d in
    let y = sym (exact_pair o b 1 (omega arith) l) ∙ ap (λ u. u.1) d in
    pairs.pair_forth o v.0 v.1 b l h x y

pair_held : (o : Order) (b : List ℕ) (v : ℕ × ℕ) → length b ≡ 3 → (pair_of o).read b ≡ some v → (pair_of o).Holds v
pair_held o b v l e =
    let small : (k : ℕ) → k < 2 → twelve_in o b k < 4096 = λ k h. rw exact_pair (below o b (12 * k) 12) in
    subst (pair_of o).Holds (some-injective (twelve_in o b 0, twelve_in o b 1) v e) (small 0 (omega arith), small 1 (omega arith))

pub pair_law : (o : Order) → PartLaw (pair_of o)
pair_law o = record {
  sized = λ v h. pairs.length_pair o v.0 v.1;
  bytes = λ v h. pairs.pair_bytes_lem o v.0 v.1;
  back = pair_back o;
  held = λ b v l h e. pair_held o b v l e;
  forth = pair_forth o;
}

same_self : (m : List ℕ) → same m m ≡ true
unfolding same
same_self [] = refl
same_self (x ∷ m) = rw eq-eqb (same_self m)

same_is : (b m : List ℕ) → same b m ≡ true → m ≡ b
unfolding same
same_is [] [] e = refl
same_is [] (y ∷ m) e = cc
same_is (x ∷ b) [] e = cc
same_is (x ∷ b) (y ∷ m) e = let d = two (eqb x y) (same b m) e in rw (eqb-true x y d.0, same_is b m d.1)

fixed_forth : (t : Bool) (b m : List ℕ) (v : Unit {0}) → same b m ≡ t → cond t (some tt) none ≡ some v → m ≡ b
fixed_forth true b m v s e = same_is b m s
fixed_forth false b m v s e = cc

mark_bytes : (m : List ℕ) → are_bytes m ≡ true → Bytes m
mark_bytes [] t i = omega arith
mark_bytes (x ∷ m) t zero = ltb-true x 256 (two (ltb x 256) (are_bytes m) t).0
mark_bytes (x ∷ m) t (suc i) = mark_bytes m (two (ltb x 256) (are_bytes m) t).1 i

-- of a mark that consists of bytes, which is computed
pub fixed_law : (m : List ℕ) → are_bytes m ≡ true → PartLaw (fixed m)
fixed_law m t = record {
  sized = λ v h. refl;
  bytes = λ v h. mark_bytes m t;
  back = λ v h. rw (same_self m);
  held = λ b v l h e. tt;
  forth = λ b v l h e. fixed_forth (same b m) b m v refl e;
}
