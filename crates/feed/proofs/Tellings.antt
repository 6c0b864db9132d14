-- Nothing that a record has to tell is passed over or told twice: feeding stops at the first that has something to tell, and
-- feeding on from there tells the rest.
-- Assumes nothing.
use mathlib.Core.Path.{◌≡◌, refl, sym, ap, ◌∙◌}
use mathlib.Core.Bool.{Bool, true, false, cond}
use mathlib.Core.List.{List, [], ◌∷◌}
use Prim.Native.Nat.{ℕ, zero, suc}
use native.Mathlib.Omega.{arith}
use Rattle.feed.specs.Feeding.{quiet, Desk, fed_one, feed_up_to, whole_from, feed_all, told_in, told_all}
use Rattle.feed.specs.declared.feeding.Fed.{Fed}
use Rattle.feed.proofs.Cuts.{whole_left}
use Rattle.feed.proofs.Turns.{loud}
use Rattle.feed.proofs.Laws.{some_left, anew}

module _ (bytes : List ℕ) where
  -- what is told from a desk on, by where feeding stops
  abbrev first : Desk → List Fed
  first e = cond (quiet e.fed) [] (e.fed ∷ told_all bytes e)

  tells : (n : ℕ) (d : Desk) → n ≡ whole_from bytes d.fed.at → quiet d.fed ≡ true → told_in n bytes d ≡ first (feed_up_to n bytes d)
  unfolding told_all fed_one
  tells zero d e q = rw q
  tells (suc n) d e q =
      let w = some_left bytes n d.fed.at (omega arith) in
      let l : n ≡ whole_from bytes (fed_one bytes d).fed.at = omega (arith, whole_left bytes d.fed.at w) in
      rw q (go (quiet (fed_one bytes d).fed) refl l (tells n (fed_one bytes d) l))
    where
      go : (b : Bool) → quiet (fed_one bytes d).fed ≡ b → n ≡ whole_from bytes (fed_one bytes d).fed.at
          → (quiet (fed_one bytes d).fed ≡ true → told_in n bytes (fed_one bytes d) ≡ first (feed_up_to n bytes (fed_one bytes d)))
          → cond b (told_in n bytes (fed_one bytes d)) ((fed_one bytes d).fed ∷ told_in n bytes (fed_one bytes d))
          ≡ first (feed_up_to n bytes (fed_one bytes d))
      go true b l r = r b
      go false b l r = sym (ap first (loud n bytes (fed_one bytes d) b) ∙ rw (b, sym l))

  pub feed_tells : (d : Desk) → quiet d.fed ≡ true → told_all bytes d ≡ first (feed_all bytes d)
  unfolding feed_all told_all
  feed_tells d q = tells (whole_from bytes d.fed.at) d refl q

  same_next : (d : Desk) → fed_one bytes (anew d d.fed.at) ≡ fed_one bytes d
  unfolding fed_one
  same_next d = refl

  on : (n : ℕ) (d : Desk) → told_in n bytes (anew d d.fed.at) ≡ told_in n bytes d
  on zero d = refl
  on (suc n) d = rw (same_next d)

  -- a desk begun anew where the last record ended has the same still to tell
  pub tell_on : (d : Desk) → told_all bytes (anew d d.fed.at) ≡ told_all bytes d
  unfolding told_all
  tell_on d = on (whole_from bytes d.fed.at) d
