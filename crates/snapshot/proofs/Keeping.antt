-- The open snapshot keeps its part of the state list.
-- Assumes nothing.
use mathlib.Core.Path.{◌≡◌, refl}
use mathlib.Core.Bool.{Bool, true, false, not, ◌&&◌, ◌||◌, or-true}
use Prim.Native.Nat.{ℕ, ◌+◌, ◌^◌, ◌<◌, ◌≤◌}
use native.Mathlib.Nat.{zero-add}
use native.Mathlib.Omega.{arith}
use lib.Dec.{eqb}
use lib.Pow.{pow_mono, pow_pos}
use borrow.Author.Tests.{eqb-true, eqb-false, ne_eqb, lt-ltb, le-leb}
use Rattle.prelude.proofs.Conds.{cases}
use Rattle.prelude.specs.Marks.{marked}
use Rattle.prelude.proofs.Marks.{highest_marked, marked_below, marked_some}
use Rattle.bursts.specs.Bursts.{first_packet, packets}
use Rattle.clock.specs.Clock.{accepted}
use Rattle.clock.specs.declared.Clock.{Clock}
use Rattle.clock.proofs.Laws.{not_begun, has_begun}
use Rattle.snapshot.specs.Snapshot.{no_snapshot, packet_type, is_part, mark_of, cuts, follows, cut_if, joins, started, step_packet, step_snapshot}
use Rattle.snapshot.specs.Soundness.{packets_among, last_highest, first_fits, none_open, snapshot_sound}
use Rattle.snapshot.specs.declared.Snapshot.{Snapshot}
use Rattle.snapshot.proofs.Facts.{Packets, packets_in, is_sound, first_last, none_zero, part_from, mark_small, below_mark, by}

-- a snapshot with a packet's mark beside lower ones, its first count being at most d, that is the last accepted
marks_keep : (code d first held : ℕ) → is_part code ≡ true → first ≤ d → held < 2 ^ mark_of code
    → Packets (accepted d) (record { first = first; held = marked held (mark_of code); last_type = packet_type code; cut = false })
unfolding packets_among last_highest first_fits none_open
marks_keep code d first held e l h =
    let u = mark_of code in
    let m = marked held u in
    let n : m < 2 ^ packets = omega (arith, marked_below held u h, pow_mono {i = u + 1} {j = 20} (omega (arith, mark_small code e))) in
    let z : m ≡ 0 → ⊥ = λ q. omega (arith, marked_some held u) in
    record {
      among = lt-ltb m (2 ^ packets) n;
      highest_last = rw (le-leb first_packet (packet_type code) (part_from code e), highest_marked) (or-true (eqb m 0));
      fits = le-leb first d l;
      shut = rw (ne_eqb m 0 z);
      start = refl;
    }

-- a snapshot that goes on, cut or not
cut_keeps : (c : Clock) (s : Snapshot) (b : Bool) (d : ℕ) → Packets c s → s.first ≤ d → Packets (accepted d) (cut_if b s)
unfolding packets_among last_highest first_fits none_open
cut_keeps c s b d f l = record {
  among = f.among;
  highest_last = f.highest_last;
  fits = le-leb s.first d l;
  shut = shuts (eqb s.held 0) f.shut;
  start = refl;
}
  where
    shuts : (t : Bool) → (not t || (eqb s.first 0 && (eqb s.last_type 0 && not s.cut))) ≡ true
        → (not t || (eqb s.first 0 && (eqb s.last_type 0 && not ((not t && b) || s.cut)))) ≡ true
    shuts true e = e
    shuts false e = refl

-- the first count of an open snapshot lies before every later one
first_before : (c : Clock) (s : Snapshot) (d : ℕ) → Packets c s → (c.any ≡ true → c.last < d) → s.first ≤ d
first_before c s d f above =
    cases (eqb s.held 0)
    (λ t. omega (arith, (none_zero s f.shut (eqb-true s.held 0 t)).first_is))
    (λ t. omega (arith, first_last c s f.fits, above (has_begun c s.held f.start (eqb-false s.held 0 t))))

-- a packet at count d, once that is the last accepted
packet_keeps : (s : Snapshot) (d code : ℕ) → Packets (accepted d) s → Packets (accepted d) (step_packet s d code).next
unfolding step_packet
packet_keeps s d code f = go (is_part code) (joins s code) refl refl
  where
    fresh : is_part code ≡ true → Packets (accepted d) (started d code)
    fresh e =
        let k = marks_keep code d d 0 e (omega arith) (pow_pos (mark_of code)) in
        unfold marked in rw (← zero-add (2 ^ mark_of code)) k

    go : (p j : Bool) → is_part code ≡ p → joins s code ≡ j → Packets (accepted d) (by s d code p j).next
    go true true p j = marks_keep code d s.first s.held p (first_last (accepted d) s f.fits) (below_mark s code f.highest_last j)
    go true false p j = fresh p
    go false j p q = cut_keeps (accepted d) s (cuts code) d f (first_last (accepted d) s f.fits)

-- no snapshot open passes with every clock
pub none_sound : (c : Clock) → snapshot_sound c no_snapshot ≡ true
unfolding packets_among last_highest first_fits none_open
none_sound c =
    let fits = le-leb 0 c.last (omega arith) in
    is_sound c no_snapshot (record { among = refl; highest_last = refl; fits = fits; shut = refl; start = or-true c.any })

-- a record at a later count keeps the snapshot's part of the state list
pub step_sound : (c : Clock) (s : Snapshot) (d one two : ℕ) → snapshot_sound c s ≡ true → (c.any ≡ true → c.last < d)
    → snapshot_sound (accepted d) (step_snapshot c s d one two).next ≡ true
unfolding step_snapshot
step_sound c s d one two e above =
    let f = packets_in c s e in
    let k = cut_keeps c s (not (follows c d)) d f (first_before c s d f above) in
    let t = cut_if (not (follows c d)) s in
    is_sound (accepted d) _ (packet_keeps (step_packet t d one).next d two (packet_keeps t d one k))

-- until something is accepted there is none
all_zero : (first held type : ℕ) (cut : Bool) → first ≡ 0 → held ≡ 0 → type ≡ 0 → cut ≡ false
    → ◌≡◌ {A = Snapshot} (record { first = first; held = held; last_type = type; cut = cut }) no_snapshot
all_zero first held type cut a b c d = cc

pub unstarted : (c : Clock) (s : Snapshot) → snapshot_sound c s ≡ true → c.any ≡ false → s ≡ no_snapshot
unstarted c s e n =
    let f = packets_in c s e in
    let h = not_begun c s.held f.start n in
    let z = none_zero s f.shut h in
    all_zero s.first s.held s.last_type s.cut z.first_is h z.type_is z.cut_is
