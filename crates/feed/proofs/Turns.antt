-- A turn of feeding: what it leaves to do, and its ends.
-- Assumes nothing.
use mathlib.Core.Path.{◌≡◌, refl, sym, ap, ◌∙◌}
use mathlib.Core.Bool.{true, false}
use mathlib.Core.List.{List}
use Prim.Native.Nat.{ℕ, zero, suc, ◌+◌, ◌<◌}
use native.Mathlib.Numerals.{add-one}
use native.Mathlib.Omega.{arith}
use lib.ListN.{length}
use Rattle.state.specs.declared.State.{State}
use Rattle.state.specs.declared.deciding.Stepped.{Stepped}
use Rattle.reader.specs.Buffers.{Buffers}
use Rattle.reader.specs.Steps.{StepIs}
use Rattle.feed.specs.Cutting.{record_at, is_whole}
use Rattle.feed.specs.Feeding.{told, quiet, Desk, fed_one, feed_up_to, whole_from, feed_all, desk, DeskIs, OneIs}
use Rattle.feed.specs.declared.feeding.Fed.{Fed}
use Rattle.feed.proofs.Cuts.{whole_left, none_left}

-- a record that was stepped, and what is told of it
pub one_is : {s : State} {b b' : Buffers} {r : List ℕ} {x : Stepped} {y : Fed} (bytes : List ℕ) (at : ℕ)
    → r ≡ record_at bytes at → StepIs s b r x b' → y ≡ told at (at + length r) x → OneIs s b bytes at y b'
unfolding fed_one
one_is bytes at e is h =
    let i = rw e at is in
    record { result = h ∙ rw e (ap (told at (at + length (record_at bytes at))) i.result); left = i.left }

-- nothing more is taken after one that has something to tell
pub loud : (n : ℕ) (bytes : List ℕ) (d : Desk) → quiet d.fed ≡ false → feed_up_to n bytes d ≡ d
loud zero bytes d e = refl
loud (suc n) bytes d e = rw e

module _ (bytes : List ℕ) where
  -- one more is taken; none is left; the last had something to tell
  pub feed_more : (d : Desk) → is_whole (length bytes) d.fed.at ≡ true → quiet d.fed ≡ true
      → feed_all bytes d ≡ feed_all bytes (fed_one bytes d)
  unfolding feed_all fed_one
  feed_more d w q = ap (λ k. feed_up_to k bytes d) (whole_left bytes d.fed.at w ∙ add-one _) ∙ rw q

  pub feed_none : (d : Desk) → is_whole (length bytes) d.fed.at ≡ false → feed_all bytes d ≡ d
  unfolding feed_all
  feed_none d w = rw none_left

  pub feed_loud : (d : Desk) → quiet d.fed ≡ false → feed_all bytes d ≡ d
  unfolding feed_all
  feed_loud d e = loud (whole_from bytes d.fed.at) bytes d e

  module _ (f : Fed) (b : Buffers) (w : is_whole (length bytes) f.at ≡ true)
      {x : Fed} {b' : Buffers} (is : OneIs f.state b bytes f.at x b') where
    -- after a turn the same is left to do, with one record fewer
    pub turn : quiet f ≡ true → feed_all bytes (desk f b) ≡ feed_all bytes (desk x b')
    unfolding fed_one
    turn q = feed_more (desk f b) w q ∙ ap (feed_all bytes) (sym (rw (is.result, is.left)))

    pub fewer : whole_from bytes x.at < whole_from bytes f.at
    unfolding fed_one
    fewer = omega (arith, whole_left bytes f.at w, ap (λ y. y.at) is.result)

  module _ {f : Fed} {b : Buffers} (d : Desk) (e : feed_all bytes d ≡ feed_all bytes (desk f b)) where
    ended : feed_all bytes (desk f b) ≡ desk f b → DeskIs (feed_all bytes d) f b
    ended k = rw (e, k) (record { result = refl; left = refl })

    -- one had something to tell, or none is left
    pub ended_loud : quiet f ≡ false → DeskIs (feed_all bytes d) f b
    ended_loud q = ended (feed_loud (desk f b) q)

    pub ended_none : is_whole (length bytes) f.at ≡ false → DeskIs (feed_all bytes d) f b
    ended_none w = ended (feed_none (desk f b) w)
