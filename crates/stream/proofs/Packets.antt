-- The bytes and marks of a snapshot: each of its packets' 82 bytes in their own place, 0 in all others (02, request 2).
-- Assumes nothing.
use mathlib.Core.Path.{◌≡◌, refl, ap, ◌∙◌}
use mathlib.Core.Bool.{Bool, true, false, cond}
use mathlib.Core.List.{List, [], ◌∷◌, ◌++◌}
use Prim.Native.Nat.{ℕ, ◌+◌, ◌*◌, ◌<◌}
use native.Mathlib.Omega.{arith}
use lib.ListN.{length, get_or, length-take, length-drop, get_or-replicate, length-replicate}
use Rattle.prelude.specs.Every.{Every}
use Rattle.prelude.proofs.Every.{every_map}
use Rattle.record.specs.Layout.{packet_size, packet_bytes}
use Rattle.record.specs.Frame.{carries_burst, carries_two}
use Rattle.record.specs.Contents.{record_of}
use Rattle.record.proofs.Types.{burst_length}
use Rattle.bursts.specs.Bursts.{burst_size, snapshot_size, place}
use Rattle.bursts.proofs.Carries.{carried}
use Rattle.bursts.specs.Bursts as bursts
use Rattle.snapshot.specs.Snapshot.{packet_type}
use Rattle.snapshot.proofs.Facts.{mark_small, part_from}
use Rattle.gathering.specs.Lists.{Linked}
use Rattle.gathering.specs.Laying.{put_all, Rising, Table}
use Rattle.gathering.proofs.Buffers.{Block, blocks}
use Rattle.gathering.proofs.Laying.{all_fit, stays, stand}
use Rattle.gathering.proofs.Marking.{marks_set, marks_free, marks_count, marks_below}
use Rattle.gathering.proofs.Members.{every_in, in_every, those_in}
use Rattle.stream.specs.Sending.{next_real, Kept}
use Rattle.stream.specs.Cutting.{at}
use Rattle.stream.specs.Bursts.{Packet, first_of, second_of, packets_from, burst_packets, is_packet, snap_packets, Together}
use Rattle.stream.specs.Snapshots.{mark, SnapshotFilled}
use Rattle.stream.proofs.Calls.{no_bytes}
use Rattle.stream.proofs.Chains.{Chain}
use Rattle.stream.proofs.Snapping.{bytes_with}
use Rattle.stream.proofs.Snaps.{snap_of}

-- each packet has 82 bytes
all_sized : (xs : List Kept) (n c k l : ℕ) → Chain c k l xs → Every (λ q. length q.bytes ≡ burst_size) (packets_from n xs)
unfolding Chain Every packets_from
all_sized [] n c k l w = tt
all_sized (x ∷ xs) n c k l w =
    go (carries_two (record_of x.bytes).kind) (carries_burst (record_of x.bytes).kind)
    (λ m. all_sized xs m (at x + 1) (next_real x.serial x.bytes) x.lost w.1)
  where
    these : Bool → Bool → List Packet
    these t b = cond t (first_of n x ∷ second_of (n + 1) x ∷ []) (cond b (first_of n x ∷ []) [])

    sized : length (packet_bytes x.bytes) ≡ packet_size
    sized = simp (length-take, length-drop) (omega arith)

    go : (t b : Bool) → ((m : ℕ) → Every (λ q. length q.bytes ≡ burst_size) (packets_from m xs))
        → Every (λ q. length q.bytes ≡ burst_size) (these t b ++ packets_from (n + length (these t b)) xs)
    go true b ih = (burst_length (packet_bytes x.bytes) false sized, (burst_length (packet_bytes x.bytes) true sized, ih (n + 2)))
    go false true ih = (burst_length (packet_bytes x.bytes) false sized, ih (n + 1))
    go false false ih = ih (n + 0)

-- a packet of types 36 to 55
pub record Part (q : Packet) : Type 0 where
  pub is : is_packet q ≡ true
  pub sized : length q.bytes ≡ burst_size

pub all_parts : (ks : List Kept) (c k l : ℕ) → Chain c k l ks → Every Part (snap_packets ks)
all_parts ks c k l w = in_every Part (snap_packets ks) (λ q i.
    let j = those_in is_packet (burst_packets ks) q i in
    record { is = j.1; sized = every_in (λ q. length q.bytes ≡ burst_size) (burst_packets ks) q (all_sized ks 0 c k l w) j.0 })

abbrev Piece : Packet → Type 0
Piece = Block mark bursts.packets 0 burst_size (λ (q : Packet). q.bytes)

piece : (q : Packet) → Part q → Piece q
piece q p = record { below = mark_small q.code p.is; sized = p.sized }

-- byte k of each packet
byte_table : (k : ℕ) → k < burst_size
    → Table mark bytes_with (λ b u. get_or b (burst_size * u + k) 0) (λ q. get_or q.bytes k 0) Piece (λ u. u < bursts.packets)
    (λ low b. length b ≡ snapshot_size)
unfolding bytes_with
byte_table k h = blocks mark bursts.packets 0 burst_size (λ q. q.bytes) k h

-- types rise, and so marks do
links_rise : (p f : Packet) → Part p → packet_type p.code < packet_type f.code → mark p < mark f
links_rise p f h l = omega (arith, part_from p.code h.is)

marks_rise : (ks : List Kept) (fs : List Packet) (p : Packet) → Every Part (p ∷ fs) → Linked (Together ks) p fs → Rising mark (mark p + 1) fs
unfolding Linked Rising Every
marks_rise ks [] p t l = tt
marks_rise ks (f ∷ fs) p t l = (omega (arith, links_rise p f t.0 l.0.rising), marks_rise ks fs f t.1 l.1)

-- where the table has a packet's bytes
pub mark_type : (q : Packet) → Part q → packet_type q.code ≡ bursts.first_packet + mark q
mark_type q p = omega (arith, part_from q.code p.is)

place_is : (u k : ℕ) → u < bursts.packets → k < burst_size → place (bursts.first_packet + u) k ≡ burst_size * u + k
place_is u k h l = (carried (bursts.first_packet + u) (omega arith) (omega arith)).in_order k l ∙ ap (λ n. burst_size * n + k) (omega arith)

pub snapshot_filled : (ks : List Kept) (f : Packet) (fs : List Packet) → Every Part (f ∷ fs) → Linked (Together ks) f fs
    → SnapshotFilled (f ∷ fs) (snap_of (f ∷ fs))
unfolding snap_of Rising
snapshot_filled ks f fs t l =
    let g = f ∷ fs in
    let r : Rising mark 0 g = (omega arith, marks_rise ks fs f t l) in
    let z = length-replicate {A = ℕ} snapshot_size 0 in
    let good = every_map Part Piece piece g t in
    let small = every_map Piece (λ q. mark q < bursts.packets) (λ q h. h.below) g good in
    record {
      first = refl;
      held = marks_count mark g 0 r;
      among = marks_below mark g 0 r bursts.packets (omega arith) small;
      size = all_fit (byte_table 0 (omega arith)) g no_bytes 0 bursts.packets (λ b n i e. e) (omega arith) small good r z;
      own = in_every _ g (λ x i.
          let p = every_in Part g x t i in
          record {
            held = marks_set mark g 0 r x i;
            bytes = λ k h.
                let q = ap (λ n. place n k) (mark_type x p) ∙ place_is (mark x) k (piece x p).below h in
                ap (λ n. get_or (put_all bytes_with no_bytes g) n 0) q ∙ stand (byte_table k h) g no_bytes 0 good r z x i;
          });
      others = λ u h n. record {
        unheld = marks_free mark g 0 r u n;
        bytes = λ k j.
            ap (λ n. get_or (put_all bytes_with no_bytes g) n 0) (place_is u k h j)
            ∙ stays (byte_table k j) g no_bytes 0 u good r z h n
            ∙ get_or-replicate {A = ℕ} snapshot_size (burst_size * u + k) 0 0 (omega arith);
      };
    }
