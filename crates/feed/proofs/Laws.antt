-- What feeding comes to: where it rests, and that where the input is cut makes no difference.
-- Assumes nothing.
use mathlib.Core.Path.{◌≡◌, refl, sym, ap, ◌∙◌}
use mathlib.Core.Bool.{Bool, true, false, cond}
use mathlib.Core.List.{List, ◌++◌}
use Prim.Native.Nat.{ℕ, zero, suc, ◌+◌, ◌-◌, ◌≤◌}
use native.Mathlib.Nat.{zero-add, suc-add, add-zero, add_assoc}
use native.Mathlib.Omega.{arith}
use lib.ListN.{length, take, drop, length-drop, length-append}
use lib.Seq.{drop-drop, take-append-le, drop-append-le, take_at}
use borrow.Author.Tests.{le-leb, lt-leb}
use Rattle.buffers.specs.Laying.{patch}
use Rattle.record.specs.Layout.{size}
use Rattle.feed.specs.Cutting.{is_whole, RestIs}
use Rattle.feed.specs.Feeding.{nothing_fed, is_nothing, quiet, Desk, fed_one, feed_up_to, whole_from, feed_all}
use Rattle.feed.proofs.Cuts.{record_room, whole_fits, whole_left}
use Rattle.feed.proofs.Rests.{between, in_order}
use Rattle.feed.proofs.Turns.{loud, feed_more}

module _ (bytes : List ℕ) where
  -- where one is counted, a whole record begins
  pub some_left : (n at : ℕ) → suc n ≤ whole_from bytes at → is_whole (length bytes) at ≡ true
  unfolding is_whole
  some_left n at h = le-leb (at + size) (length bytes) (omega arith)

  rests : (n : ℕ) (d : Desk) → n ≡ whole_from bytes d.fed.at → quiet (feed_up_to n bytes d).fed ≡ true
      → is_whole (length bytes) (feed_up_to n bytes d).fed.at ≡ false
  unfolding is_whole fed_one
  rests zero d e q = lt-leb (d.fed.at + size) (length bytes) (omega arith)
  rests (suc n) d e q =
      let w = some_left n d.fed.at (omega arith) in
      go (quiet d.fed) refl (rests n (fed_one bytes d) (omega (arith, whole_left bytes d.fed.at w))) q
    where
      go : (b : Bool) → quiet d.fed ≡ b
          → (quiet (feed_up_to n bytes (fed_one bytes d)).fed ≡ true → is_whole (length bytes) (feed_up_to n bytes (fed_one bytes d)).fed.at ≡ false)
          → quiet (cond b (feed_up_to n bytes (fed_one bytes d)) d).fed ≡ true
          → is_whole (length bytes) (cond b (feed_up_to n bytes (fed_one bytes d)) d).fed.at ≡ false
      go true b r k = r k
      go false b r k = cc

  -- where the last record had nothing to tell, no whole record is left
  pub feed_rests : (d : Desk) → quiet (feed_all bytes d).fed ≡ true → is_whole (length bytes) (feed_all bytes d).fed.at ≡ false
  unfolding feed_all
  feed_rests d q = rests (whole_from bytes d.fed.at) d refl q

  -- up to n records and then up to m more are up to n + m, also where one of the first has something to tell
  pub feed_again : (n m : ℕ) (d : Desk) → feed_up_to (n + m) bytes d ≡ feed_up_to m bytes (feed_up_to n bytes d)
  feed_again zero m d = rw zero-add
  feed_again (suc n) m d = rw suc-add (go (quiet d.fed) refl (feed_again n m (fed_one bytes d)))
    where
      go : (b : Bool) → quiet d.fed ≡ b
          → feed_up_to (n + m) bytes (fed_one bytes d) ≡ feed_up_to m bytes (feed_up_to n bytes (fed_one bytes d))
          → cond b (feed_up_to (n + m) bytes (fed_one bytes d)) d ≡ feed_up_to m bytes (cond b (feed_up_to n bytes (fed_one bytes d)) d)
      go true b r = r
      go false b r = sym (loud m bytes d b)

  within : (n : ℕ) (d : Desk) → d.fed.at ≤ length bytes → (feed_up_to n bytes d).fed.at ≤ length bytes
  unfolding fed_one
  within zero d h = h
  within (suc n) d h = go (quiet d.fed) (within n (fed_one bytes d) (omega (arith, record_room bytes d.fed.at)))
    where
      go : (b : Bool) → (feed_up_to n bytes (fed_one bytes d)).fed.at ≤ length bytes
          → (cond b (feed_up_to n bytes (fed_one bytes d)) d).fed.at ≤ length bytes
      go true r = r
      go false r = h

  -- the place stays within the bytes
  pub feed_within : (d : Desk) → d.fed.at ≤ length bytes → (feed_all bytes d).fed.at ≤ length bytes
  unfolding feed_all
  feed_within d h = within (whole_from bytes d.fed.at) d h

-- as many places further on
abbrev pub moved : ℕ → Desk → Desk
moved k d =
    let f = d.fed in
    record { fed = record { from = k + f.from; at = k + f.at; refusal = f.refusal; state = f.state; closed = f.closed }; lent = d.lent }

-- begun there, with nothing told yet
abbrev pub anew : Desk → ℕ → Desk
anew d at = record { fed = nothing_fed d.fed.state at; lent = d.lent }

anew_moved : (d : Desk) (k : ℕ) → anew d k ≡ moved k (anew d 0)
anew_moved d k = rw (add-zero k)

-- what was told last doesn't matter to what is fed next
pub feed_anew : (bytes : List ℕ) (d : Desk) → quiet d.fed ≡ true → is_whole (length bytes) d.fed.at ≡ true
    → feed_all bytes d ≡ feed_all bytes (anew d d.fed.at)
unfolding fed_one is_nothing
feed_anew bytes d q w = cc (feed_more bytes d w q, feed_more bytes (anew d d.fed.at) w refl)

module _ (bytes : List ℕ) (k : ℕ) where
  next_moved : (d : Desk) → fed_one bytes (moved k d) ≡ moved k (fed_one (drop k bytes) d)
  unfolding fed_one
  next_moved d = rw (drop-drop, add_assoc)

  up_to_moved : (n : ℕ) (d : Desk) → feed_up_to n bytes (moved k d) ≡ moved k (feed_up_to n (drop k bytes) d)
  up_to_moved zero d = refl
  up_to_moved (suc n) d = go (quiet d.fed) (ap (feed_up_to n bytes) (next_moved d) ∙ up_to_moved n (fed_one (drop k bytes) d))
    where
      go : (b : Bool) → feed_up_to n bytes (fed_one bytes (moved k d)) ≡ moved k (feed_up_to n (drop k bytes) (fed_one (drop k bytes) d))
          → cond b (feed_up_to n bytes (fed_one bytes (moved k d))) (moved k d)
          ≡ moved k (cond b (feed_up_to n (drop k bytes) (fed_one (drop k bytes) d)) d)
      go true r = r
      go false r = refl

  -- the first k bytes don't matter to what is fed from behind them
  pub feed_moved : (d : Desk) → feed_all bytes (moved k d) ≡ moved k (feed_all (drop k bytes) d)
  unfolding feed_all
  feed_moved d =
      let e : whole_from bytes (k + d.fed.at) ≡ whole_from (drop k bytes) d.fed.at = simp length-drop (omega arith) in
      ap (λ n. feed_up_to n bytes (moved k d)) e ∙ up_to_moved (whole_from (drop k bytes) d.fed.at) d

module _ (xs ys : List ℕ) where
  next_front : (d : Desk) → is_whole (length xs) d.fed.at ≡ true → fed_one (xs ++ ys) d ≡ fed_one xs d
  unfolding fed_one
  next_front d w =
      let at = d.fed.at in
      let h = whole_fits xs at w in
      let e = drop-append-le at xs ys (omega arith) in
      let f = take-append-le size (drop at xs) ys (simp length-drop (omega arith)) in
      let g = ap (take size) e ∙ f in
      rw g

  up_to_front : (n : ℕ) (d : Desk) → n ≤ whole_from xs d.fed.at → feed_all (xs ++ ys) d ≡ feed_all (xs ++ ys) (feed_up_to n xs d)
  unfolding is_whole fed_one
  up_to_front zero d h = refl
  up_to_front (suc n) d h =
      let at = d.fed.at in
      let w = some_left xs n at h in
      let l : at + size ≤ length (xs ++ ys) = simp length-append (omega arith) in
      let v = le-leb (at + size) (length (xs ++ ys)) l in
      let r = up_to_front n (fed_one xs d) (omega (arith, whole_left xs at w)) in
      go (quiet d.fed) refl (λ q. feed_more (xs ++ ys) d v q ∙ ap (feed_all (xs ++ ys)) (next_front d w) ∙ r)
    where
      go : (b : Bool) → quiet d.fed ≡ b → (quiet d.fed ≡ true → feed_all (xs ++ ys) d ≡ feed_all (xs ++ ys) (feed_up_to n xs (fed_one xs d)))
          → feed_all (xs ++ ys) d ≡ feed_all (xs ++ ys) (cond b (feed_up_to n xs (fed_one xs d)) d)
      go true b r = r b
      go false b r = refl

  -- the whole records of a first part can be fed before the others are there
  pub feed_cut : (d : Desk) → feed_all (xs ++ ys) d ≡ feed_all (xs ++ ys) (feed_all xs d)
  unfolding feed_all
  feed_cut d = up_to_front (whole_from xs d.fed.at) d (omega arith)

  -- what is left of a first part can then be put to the front, and the others behind it
  pub feed_refilled : (d : Desk) → d.fed.at ≤ length xs → quiet (feed_all xs d).fed ≡ true
      → is_whole (length (xs ++ ys)) (feed_all xs d).fed.at ≡ true
      → feed_all (xs ++ ys) d ≡ moved (feed_all xs d).fed.at (feed_all (drop (feed_all xs d).fed.at xs ++ ys) (anew (feed_all xs d) 0))
  feed_refilled d h q w =
      let e = feed_all xs d in
      let p = e.fed.at in
      feed_cut d
      ∙ feed_anew (xs ++ ys) e q w
      ∙ ap (feed_all (xs ++ ys)) (anew_moved e p)
      ∙ feed_moved (xs ++ ys) p (anew e 0)
      ∙ rw (drop-append-le p xs ys (feed_within xs d h))

-- what came to the front are the bytes that stood between the places
pub rest_in_front : (bytes : List ℕ) (from to : ℕ) (b : List ℕ) (n : ℕ) → from ≤ to → to ≤ length bytes → RestIs bytes from to b n
    → take n b ≡ take (to - from) (drop from bytes)
unfolding patch
rest_in_front bytes from to b n h l is =
    let s = take (to - from) (drop from bytes) in
    let o = in_order bytes from to l h in
    let c : b ≡ patch bytes 0 s = is.content ∙ rw o in
    let k : n ≡ to - from = is.number ∙ rw o in
    rw (c, k) (take_at s (drop (0 + length s) bytes) (to - from) (between bytes from (to - from) (omega arith)))
