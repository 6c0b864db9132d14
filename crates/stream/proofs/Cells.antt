-- The cells and marks of an accumulation: each of its frames' bytes in their own places, 0 in all others.
-- Assumes nothing.
use mathlib.Core.Path.{◌≡◌, refl, sym, ap, ◌∙◌}
use mathlib.Core.List.{List, ◌∷◌}
use Prim.Native.Nat.{ℕ, ◌-◌, ◌*◌, ◌%◌, ◌<◌}
use native.Mathlib.Nat.{div-eq_of_lt}
use native.Mathlib.Omega.{arith}
use lib.ListN.{length, get_or, get_or-replicate, length-replicate}
use lib.Pow.{pow_pos}
use Rattle.prelude.specs.Every.{Every}
use Rattle.prelude.proofs.Every.{every_map}
use Rattle.record.specs.Layout.{frame_code, science_bytes}
use Rattle.record.specs.Contents.{record_of}
use Rattle.carriage.specs.Carriage.{types, science_size, place}
use Rattle.carriage.proofs.EachCell.{place_cell, carrier_place}
use Rattle.cells.specs.Laying.{cells_size, top_pair, pair_cell, pair_weight, pair_in, pair_at}
use Rattle.cells.proofs.Laws.{length_frame, own_cell, other_cell, own_pair, other_pair}
use Rattle.gathering.specs.Lists.{Linked}
use Rattle.gathering.specs.Laying.{Rising, Table}
use Rattle.gathering.proofs.Grouping.{rising_links}
use Rattle.gathering.proofs.Laying.{all_fit, stays, stand}
use Rattle.gathering.proofs.Marking.{marks_set, marks_free, marks_count, marks_below}
use Rattle.gathering.proofs.Members.{in_every}
use Rattle.stream.specs.Sending.{Kept}
use Rattle.stream.specs.Cutting.{type_of, Joined}
use Rattle.stream.specs.Filling.{packet, Filled}
use Rattle.stream.proofs.Chains.{Typed}
use Rattle.stream.proofs.Calls.{cells_with, no_cells}
use Rattle.stream.proofs.Rounds.{out_of}

abbrev code_of : Kept → ℕ
code_of f = frame_code (packet f)

-- cells of the right size
abbrev Fit : ℕ → List ℕ → Type 0
Fit low c = length c ≡ cells_size

-- science byte k of each type, and its pair
science : (k : ℕ) → k < science_size
    → Table type_of cells_with (λ c u. get_or c (place u k) 0) (λ f. get_or (science_bytes (packet f)) k 0) Typed (λ u. u < types) Fit
unfolding cells_with record_of
science k h = record {
  keyed = λ f t. t.small;
  fits = λ f c low t l e. length_frame (code_of f) (science_bytes (packet f)) c;
  own = λ f c low t l e. own_cell (code_of f) (science_bytes (packet f)) c k t.small h;
  other = λ f c low u t l e s n.
      other_cell (code_of f) (science_bytes (packet f)) c (place u k) (place_cell u k s h) (λ q. n (sym q ∙ carrier_place u k s h));
}

pairs : Table type_of cells_with pair_at (λ f. top_pair (code_of f)) Typed (λ u. u < types) Fit
unfolding cells_with record_of
pairs = record {
  keyed = λ f t. t.small;
  fits = λ f c low t l e. length_frame (code_of f) (science_bytes (packet f)) c;
  own = λ f c low t l e. own_pair (code_of f) (science_bytes (packet f)) c t.small t.code;
  other = λ f c low u t l e s n. other_pair (code_of f) (science_bytes (packet f)) c t.small u s t.code (λ q. n (sym q));
}

none_pair : (u : ℕ) → u < types → pair_at no_cells u ≡ 0
unfolding pair_weight
none_pair u h = ap (λ b. pair_in b u) (get_or-replicate {A = ℕ} cells_size (pair_cell u) 0 0 (omega arith)) ∙ rw (div-eq_of_lt (pow_pos (6 - 2 * (u % 4))))

pub filled : (f : Kept) (fs : List Kept) → Every Typed (f ∷ fs) → Linked Joined f fs → Filled (f ∷ fs) (out_of (f ∷ fs))
unfolding out_of Rising
filled f fs t l =
    let r : Rising type_of 0 (f ∷ fs) = (omega arith, rising_links type_of Joined (λ p f j. j.rising) fs f l) in
    let g = f ∷ fs in
    let z = length-replicate {A = ℕ} cells_size 0 in
    let small = every_map Typed (λ f. type_of f < types) (λ f h. h.small) g t in
    record {
      first = refl;
      frames = marks_count type_of g 0 r;
      among = marks_below type_of g 0 r types (omega arith) small;
      size = all_fit pairs g no_cells 0 types (λ c n i e. e) (omega arith) small t r z;
      own = in_every _ g (λ x i. record {
        held = marks_set type_of g 0 r x i;
        science = λ k h. stand (science k h) g no_cells 0 t r z x i;
        pair = stand pairs g no_cells 0 t r z x i;
      });
      others = λ u h n. record {
        unheld = marks_free type_of g 0 r u n;
        science = λ k j.
            stays (science k j) g no_cells 0 u t r z h n
            ∙ get_or-replicate {A = ℕ} cells_size (place u k) 0 0 (omega (arith, place_cell u k h j));
        pair = stays pairs g no_cells 0 u t r z h n ∙ none_pair u h;
      };
    }
