-- The kept records as the open snapshot alone meets them, with its bytes: each as an event, and then its burst packets (02, request 2).
-- Assumes nothing.
use mathlib.Core.Path.{◌≡◌, refl, sym, ap, ◌∙◌}
use mathlib.Core.Bool.{Bool, true, false, cond, not}
use mathlib.Core.List.{List, [], ◌∷◌, ◌++◌, map}
use Prim.Native.Nat.{ℕ, ◌+◌, ◌*◌}
use lib.Dec.{eqb}
use lib.ListN.{length}
use Rattle.buffers.specs.Laying.{patch}
use Rattle.bursts.specs.Bursts.{burst_size}
use Rattle.snapshot.specs.Snapshot.{is_open, cuts, cut_if, joins, joined, started}
use Rattle.snapshot.specs.declared.Snapshot.{Snapshot}
use Rattle.gathering.specs.Gathering.{Gatherer, gather, taken_by}
use Rattle.gathering.specs.Lists.{those}
use Rattle.gathering.proofs.Those.{those_append}
use Rattle.stream.specs.Running.{ClosedSnapshot}
use Rattle.stream.specs.Sending.{Kept}
use Rattle.stream.specs.Cutting.{at}
use Rattle.stream.specs.Bursts.{Packet, first_of, packets_of, packets_from, is_packet}
use Rattle.stream.specs.Snapshots.{mark}
use Rattle.stream.proofs.Calls.{no_bytes}

pub data Event : Type 0 where
  frame : Kept → Event
  packet : Packet → Event

-- from packet number n on
unfoldable pub events_from : ℕ → List Kept → List Event
events_from n [] = []
events_from n (x ∷ xs) = frame x ∷ (map packet (packets_of n x) ++ events_from (n + length (packets_of n x)) xs)

-- a packet laid where its type has it
unfoldable pub bytes_with : Packet → List ℕ → List ℕ
bytes_with q b = patch b (burst_size * mark q) q.bytes

unfoldable pub snap_closing : Snapshot → List ℕ → List ClosedSnapshot
snap_closing s b = cond (is_open s) (record { report = record { first = s.first; held = s.held }; bytes = b } ∷ []) []

unfoldable pub takes : Event → Bool
takes (frame x) = false
takes (packet q) = is_packet q

unfoldable pub item : Event → Packet
item (frame x) = first_of 0 x
item (packet q) = q

-- what is open: the last count met, the snapshot, its bytes
unfoldable pub passing : Event → ℕ × Snapshot × List ℕ → ℕ × Snapshot × List ℕ
passing (frame x) g = (at x, cut_if (not (eqb (at x) (g.0 + 1))) g.1, g.2)
passing (packet q) g = (g.0, cut_if (cuts q.code) g.1, g.2)

abbrev pub snapping : Gatherer Event Packet (ℕ × Snapshot × List ℕ) ClosedSnapshot
snapping = record {
  takes = takes;
  item = item;
  goes_on = λ g q. joins g.1 q.code;
  puts = λ q g. (g.0, joined g.1 q.code, bytes_with q g.2);
  opens = λ q. (at q.frame, started (at q.frame) q.code, bytes_with q no_bytes);
  passes = passing;
  closing = λ g. snap_closing g.1 g.2;
}

abbrev pub snap : ℕ → Snapshot → List ℕ → List Event → List ClosedSnapshot
snap c s b es = gather snapping (c, s, b) es

-- what is taken in are the packets of types 36 to 55
map_append : {A B : Type 0} (f : A → B) (g h : List A) → map f (g ++ h) ≡ map f g ++ map f h
map_append f [] h = refl
map_append f (x ∷ g) h = rw (map_append f g h)

taken_packets : (qs : List Packet) → map item (those takes (map packet qs)) ≡ those is_packet qs
unfolding those takes item
taken_packets [] = refl
taken_packets (q ∷ qs) = go (is_packet q) (taken_packets qs)
  where
    go : (b : Bool) → map item (those takes (map packet qs)) ≡ those is_packet qs
        → map item (cond b (packet q ∷ those takes (map packet qs)) (those takes (map packet qs))) ≡ cond b (q ∷ those is_packet qs) (those is_packet qs)
    go true e = rw e
    go false e = e

pub taken_are : (xs : List Kept) (n : ℕ) → taken_by snapping (events_from n xs) ≡ those is_packet (packets_from n xs)
unfolding events_from packets_from those takes
taken_are [] n = refl
taken_are (x ∷ xs) n =
    let m = n + length (packets_of n x) in
    ap (map item) (those_append takes (map packet (packets_of n x)) (events_from m xs))
    ∙ map_append item (those takes (map packet (packets_of n x))) (those takes (events_from m xs))
    ∙ ap (λ z. z ++ taken_by snapping (events_from m xs)) (taken_packets (packets_of n x))
    ∙ ap (λ z. those is_packet (packets_of n x) ++ z) (taken_are xs m)
    ∙ sym (those_append is_packet (packets_of n x) (packets_from m xs))
