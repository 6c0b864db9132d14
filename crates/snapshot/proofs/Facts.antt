-- What a snapshot that passes its part of the list is known to be, and what a packet's type byte tells.
-- Assumes nothing.
use mathlib.Core.Path.{◌≡◌, refl, sym, ◌∙◌}
use mathlib.Core.Bool.{Bool, true, false, cond, not, ◌&&◌, true≢false}
use Prim.Native.Nat.{ℕ, ◌+◌, ◌-◌, ◌*◌, ◌%◌, ◌^◌, ◌<◌, ◌≤◌}
use native.Mathlib.Omega.{arith}
use lib.Dec.{eqb, ltb, leb}
use lib.Pow.{pow_mono}
use borrow.Author.Tests.{eqb-true, ltb-true, leb-true, eq-eqb, ne_eqb, le-leb}
use Rattle.prelude.specs.Marks.{highest, marked}
use Rattle.prelude.proofs.Conds.{two, second}
use Rattle.prelude.proofs.Marks.{highest_high, none_above, weight}
use Rattle.bursts.specs.Bursts.{first_packet, packets}
use Rattle.clock.specs.Clock.{begun}
use Rattle.clock.specs.declared.Clock.{Clock}
use Rattle.snapshot.specs.Snapshot.{is_open, packet_type, is_part, mark_of, joins, extends, renews, passes, step_packet, step_snapshot}
use Rattle.snapshot.specs.Soundness.{packets_among, last_highest, first_fits, none_open, snapshot_sound}
use Rattle.snapshot.specs.Place.{leaves, stepped_at}
use Rattle.snapshot.specs.Inner.Passing.{passes_by}
use Rattle.snapshot.specs.declared.Snapshot.{Snapshot}
use Rattle.snapshot.specs.declared.PacketStep.{PacketStep}

-- the clauses, each by itself
pub record Packets (c : Clock) (s : Snapshot) : Type 0 where
  pub among : packets_among s ≡ true
  pub highest_last : last_highest s ≡ true
  pub fits : first_fits c s ≡ true
  pub shut : none_open s ≡ true
  pub start : begun c s.held ≡ true

pub packets_in : (c : Clock) (s : Snapshot) → snapshot_sound c s ≡ true → Packets c s
unfolding snapshot_sound
packets_in c s e =
    let p = two (packets_among s) _ e in
    let q = two (last_highest s) _ p.1 in
    let r = two (first_fits c s) _ q.1 in
    let t = two (none_open s) _ r.1 in
    record { among = p.0; highest_last = q.0; fits = r.0; shut = t.0; start = t.1 }

pub is_sound : (c : Clock) (s : Snapshot) → Packets c s → snapshot_sound c s ≡ true
unfolding snapshot_sound
is_sound c s f = cc

pub below_20 : (s : Snapshot) → packets_among s ≡ true → s.held < 2 ^ packets
unfolding packets_among
below_20 s e = ltb-true s.held (2 ^ packets) e

pub first_last : (c : Clock) (s : Snapshot) → first_fits c s ≡ true → s.first ≤ c.last
unfolding first_fits
first_last c s e = leb-true s.first c.last e

pub is_open_lem : (s : Snapshot) → is_open s ≡ true → s.held ≡ 0 → ⊥
is_open_lem s e z = let y : not (eqb s.held 0) ≡ false = rw eq-eqb in true≢false (sym e ∙ y)

-- an open one's last type is one of a snapshot's, and its mark the highest
module _ (s : Snapshot) (e : last_highest s ≡ true) (z : s.held ≡ 0 → ⊥) where
  last_two : (leb first_packet s.last_type && highest s.held (s.last_type - first_packet)) ≡ true
  last_two = unfold last_highest in second (eqb s.held 0) _ (ne_eqb s.held 0 z) e

  pub last_from : first_packet ≤ s.last_type
  last_from = leb-true first_packet s.last_type (two (leb first_packet s.last_type) _ last_two).0

  pub last_mark : highest s.held (s.last_type - first_packet) ≡ true
  last_mark = (two (leb first_packet s.last_type) _ last_two).1

-- with none open the numbers are 0
pub record Nought (s : Snapshot) : Type 0 where
  pub first_is : s.first ≡ 0
  pub type_is : s.last_type ≡ 0
  pub cut_is : s.cut ≡ false

not_cut : (b : Bool) → not b ≡ true → b ≡ false
not_cut false e = refl
not_cut true e = cc

pub none_zero : (s : Snapshot) → none_open s ≡ true → s.held ≡ 0 → Nought s
unfolding none_open
none_zero s e z =
    let n : not (eqb s.held 0) ≡ false = rw eq-eqb in
    let p = two (eqb s.first 0) _ (second (not (eqb s.held 0)) _ n e) in
    let q = two (eqb s.last_type 0) (not s.cut) p.1 in
    record { first_is = eqb-true _ _ p.0; type_is = eqb-true _ _ q.0; cut_is = not_cut s.cut q.1 }

-- a type past the 32 marks of the number is no highest one
pub type_above : (s : Snapshot) → s.held < 2 ^ 32 → (s.held ≡ 0 → ⊥) → first_packet ≤ s.last_type → 31 < s.last_type - first_packet
    → false ≡ last_highest s
unfolding last_highest
type_above s h z f l =
    rw (ne_eqb, le-leb, none_above 32 (s.last_type - first_packet) s.held h (omega arith))

-- the type of a snapshot's packet
module _ (code : ℕ) (e : is_part code ≡ true) where
  pub part_from : first_packet ≤ packet_type code
  part_from = unfold is_part in leb-true first_packet (packet_type code) (two (leb first_packet (packet_type code)) _ e).0

  pub part_to : packet_type code ≤ 55
  part_to = unfold is_part in leb-true (packet_type code) 55 (two (leb first_packet (packet_type code)) _ e).1

  pub mark_small : mark_of code < packets
  mark_small = omega (arith, part_to)

  pub mark_weight : 2 ^ mark_of code ≤ 2 ^ 19
  mark_weight = pow_mono {i = mark_of code} {j = 19} (omega (arith, mark_small))

  -- as a shift of 1 makes it
  pub mark_shift : 1 * 2 ^ mark_of code % 2 ^ 32 ≡ 2 ^ mark_of code
  mark_shift = weight 32 (mark_of code) (omega arith)

-- what the code needs of that type where it sets the packet's mark
pub ruleset part_marks = (part_from, mark_weight, mark_shift)

-- what joining tells
pub joins_open_lem : (s : Snapshot) (code : ℕ) → joins s code ≡ true → s.held ≡ 0 → ⊥
unfolding joins
joins_open_lem s code e = is_open_lem s (two (is_open s) _ e).0

pub joins_above : (s : Snapshot) (code : ℕ) → joins s code ≡ true → s.last_type < packet_type code
unfolding joins
joins_above s code e = ltb-true s.last_type (packet_type code) (two (ltb s.last_type (packet_type code)) _ (two (is_open s) _ e).1).0

-- "its type is above the last one held", and so above all: it has a mark of its own
pub below_mark : (s : Snapshot) (code : ℕ) → last_highest s ≡ true → joins s code ≡ true → s.held < 2 ^ mark_of code
below_mark s code f e =
    let z = joins_open_lem s code e in
    let h = last_mark s f z in
    let up = joins_above s code e in
    let last = s.last_type - first_packet in
    omega (arith, highest_high s.held last h, pow_mono {i = last + 1} {j = mark_of code} (omega (arith, last_from s f z)))

-- what a packet's step makes of the marks, by its tests
abbrev pub by : Snapshot → ℕ → ℕ → Bool → Bool → PacketStep
by s d code p j = cond p (cond j (extends s code) (renews s d code)) (passes s code)

pub next_below : (s : Snapshot) (d code : ℕ) → s.held < 2 ^ packets → (step_packet s d code).next.held < 2 ^ 21
unfolding step_packet marked
next_below s d code h = go (is_part code) (joins s code) refl
  where
    go : (p j : Bool) → is_part code ≡ p → (by s d code p j).next.held < 2 ^ 21
    go true true e = omega (arith, mark_weight code e)
    go true false e = omega (arith, mark_weight code e)
    go false j e = omega arith

-- a snapshot that passes is in place
pub step_is : (c k : Clock) (s : Snapshot) (d one two : ℕ) → snapshot_sound c s ≡ true → stepped_at k s d one two ≡ step_snapshot k s d one two
unfolding stepped_at
step_is c k s d one two e = rw (packets_in c s e).among

either_way {ℓ} : {A : Type ℓ} {a b : A} (t : Bool) → b ≡ a → b ≡ cond t a b
either_way true e = e
either_way false e = refl

-- where none is open and no packet comes, nothing changes
pub quiet_leaves : (c : Clock) (s : Snapshot) (d a b : ℕ) → passes_by s a b ≡ true → leaves s ≡ stepped_at c s d a b
unfolding passes_by stepped_at step_snapshot step_packet is_part
quiet_leaves c s d a b e =
    let p = two (eqb s.held 0) _ e in
    let q = two (eqb a 0) (eqb b 0) p.1 in
    either_way (packets_among s) (rw (eqb-true a 0 q.0, eqb-true b 0 q.1, p.0))
