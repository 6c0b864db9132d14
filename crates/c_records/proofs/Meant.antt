-- The words for a number, from where they end with their byte of 0.
-- Assumes nothing.
use mathlib.Core.Path.{◌≡◌, refl}
use mathlib.Core.Bool.{Bool, true, false, cond}
use mathlib.Core.List.{List, [], ◌∷◌}
use Prim.Native.Nat.{ℕ, ◌+◌, ◌-◌}
use native.Mathlib.Omega.{arith}
use lib.ListN.{length, length-append}
use Rattle.listing.specs.Text.{Written}
use Rattle.listing.specs.Refusals.{words_of, meaning_text, meaning_size}
use Rattle.c_records.specs.Records.{roomy, WordsGiven}

length_meaning : (k : ℕ) → length (meaning_text k) ≡ length (words_of k) + 1
unfolding meaning_text
length_meaning k = length-append (words_of k) (0 ∷ [])

module _ (k : ℕ) (room room' : List ℕ) (end : ℕ) (is : Written meaning_size (meaning_text k) room 0 room' end) where
  -- nothing was written: the room is too small
  pub no_meaning : end ≡ 0 → WordsGiven k room 0 room'
  no_meaning z = record { size = go (roomy room) is.place; written = is.content }
    where
      go : (b : Bool) → end ≡ cond b (0 + length (meaning_text k)) 0 → 0 ≡ cond b (length (words_of k)) 0
      go true e = absurd (omega (arith, e, z, length_meaning k))
      go false e = refl

  pub meant : (end ≡ 0 → ⊥) → WordsGiven k room (end - 1) room'
  meant z = record { size = go (roomy room) is.place; written = is.content }
    where
      go : (b : Bool) → end ≡ cond b (0 + length (meaning_text k)) 0 → end - 1 ≡ cond b (length (words_of k)) 0
      go true e = omega (arith, e, length_meaning k)
      go false e = absurd (z e)
