-- Each packet of types 36 to 55 of the kept records stands in exactly one snapshot, told by its place, and what a snapshot holds is all of
-- such packets (02, request 2).
-- Assumes nothing.
use mathlib.Core.Path.{◌≡◌, refl, sym, ap, ◌∙◌}
use mathlib.Core.Bool.{Bool, true, false, cond, ◌&&◌, or-true}
use mathlib.Core.List.{List, [], ◌∷◌}
use mathlib.Core.Logic.{inl, inr, ⊎_elim, ◌↔◌}
use Prim.Native.Nat.{ℕ, suc, ◌+◌, ◌*◌, ◌/◌, ◌%◌, ◌<◌}
use native.Mathlib.Nat.{zero-add}
use native.Mathlib.Omega.{arith}
use lib.Dec.{eqb}
use lib.ListN.{length, get_or}
use borrow.Author.Tests.{eq-eqb}
use Rattle.prelude.specs.Every.{Every}
use Rattle.prelude.specs.Marks.{bit_set}
use Rattle.bursts.specs.Bursts.{burst_size, snapshot_size, place, carrier_of}
use Rattle.bursts.proofs.Carries.{once}
use Rattle.listing.specs.Lines.{packets_held}
use Rattle.gathering.specs.Lists.{Some, Pairwise, ExactlyOne, flat, sum, total}
use Rattle.gathering.specs.Places.{At, Placed, placed, HasBoth}
use Rattle.gathering.proofs.Members.{In, every_in}
use Rattle.gathering.proofs.Owning.{set_by, unset_free}
use Rattle.gathering.proofs.Places.{OneOrTwo, each_placed, one_or_two, item_stands, at_in}
use Rattle.gathering.proofs.Totals.{total_same, mark_at, rows_marked}
use Rattle.stream.specs.Running.{ClosedSnapshot}
use Rattle.stream.specs.Sending.{Kept}
use Rattle.stream.specs.Bursts.{Packet, snap_packets, Together, Apart, SnapshotCut}
use Rattle.stream.proofs.Packets.{Part, mark_type}
use Rattle.stream.specs.Snapshots.{mark, PacketStands, SnapshotFilled, HasPacket, HasNext, FromPacket, UnmixedSnapshot, has_packet_byte, is_byte_filled}

abbrev items : ClosedSnapshot → ℕ
items s = packets_held s.report

-- an element has a place
placed_in : {I : Type 0} (g : List I) (f : I) (C : Type 0) → In f g → ((i : ℕ) → i < length g → At i f g → C) → C
unfolding Some At
placed_in [] f C i so = absurd i
placed_in (x ∷ g) f C (inl e) so = so 0 (omega arith) e
placed_in (x ∷ g) f C (inr i) so = placed_in g f C i (λ n l a. so (suc n) (omega arith) a)

-- where none has it, not some do
none_some : {A : Type 0} (P : A → Type 0) (xs : List A) → Every (λ x. P x → ⊥) xs → Some P xs → ⊥
unfolding Every Some
none_some P [] n s = s
none_some P (x ∷ xs) n (inl p) = n.0 p
none_some P (x ∷ xs) n (inr s) = none_some P xs n.1 s

-- what a snapshot holds comes from its packets
module _ (ps g : List Packet) (e : Placed ClosedSnapshot) (h : SnapshotFilled g e.thing) (known : Every Part ps)
    (a : (i : ℕ) (f : Packet) → At i f g → At (e.before + i) f ps) where
  held_from : (p : ℕ) → p < snapshot_size → bit_set e.thing.report.held (carrier_of p) ≡ true → FromPacket ps e p
  held_from p l b =
      set_by mark g (bit_set e.thing.report.held) (carrier_of p) (λ n. (h.others (carrier_of p) (omega arith) n).unheld) b (FromPacket ps e p) (λ y j z.
      placed_in g y (FromPacket ps e p) j (λ i k at.
      let c = every_in (λ f. PacketStands f e.thing) g y h.own j in
      let part = every_in Part ps y known (at_in ps (e.before + i) y (a i y at)) in
      let t = mark_type y part ∙ rw z in
      let q = ap (λ n. place n (p % burst_size)) t ∙ (once p l).is in
      record {
        among = e.before + i;
        packet = y;
        is = a i y at;
        in_it = (omega arith, omega arith);
        carries = z;
        byte = rw q at (c.bytes (p % burst_size) (omega arith));
      }))

  none_from : (p : ℕ) → p < snapshot_size → bit_set e.thing.report.held (carrier_of p) ≡ false → get_or e.thing.bytes p 0 ≡ 0
  none_from p l b =
      let free = unset_free mark g (bit_set e.thing.report.held) (carrier_of p)
      (λ y j. (every_in (λ f. PacketStands f e.thing) g y h.own j).held) b in
      rw (once p l).is at ((h.others (carrier_of p) (omega arith) free).bytes (p % burst_size) (omega arith))

-- the snapshots of the packets of types 36 to 55 in the kept records ks
module _ (ks : List Kept) (gs : List (List Packet)) (os : List ClosedSnapshot) (whole : flat gs ≡ snap_packets ks)
    (parts : Pairwise SnapshotFilled gs os) (cut : SnapshotCut ks gs) (known : Every Part (snap_packets ks)) where
  abbrev sizes : (g : List Packet) (s : ClosedSnapshot) → SnapshotFilled g s → items s ≡ length g
  sizes g s h = h.held

  pub stood : (i : ℕ) (f : Packet) → At i f (snap_packets ks)
      → ExactlyOne (HasPacket i) (placed items 0 0 os) × Every (λ e. HasPacket i e → PacketStands f e.thing) (placed items 0 0 os)
  stood i f a =
      rw (zero-add i) at (item_stands SnapshotFilled items sizes PacketStands (λ g s h. h.own) gs os 0 0 i f parts (rw whole a))

  pub together_where : (i : ℕ) (p f : Packet) → At i p (snap_packets ks) → At (suc i) f (snap_packets ks)
      → Some (HasNext i) (placed items 0 0 os) ↔ Together ks p f
  together_where i p f a b = (
    λ s. ⊎_elim (λ y. y.0)
        (λ y. absurd (none_some (HasBoth items i) os' y.1 s)) either,
    λ t. ⊎_elim (λ y. y.1)
        (λ y. absurd (y.0 t)) either,
  )
    where
      os' : List (Placed ClosedSnapshot)
      os' = placed items 0 0 os

      either : OneOrTwo SnapshotFilled items sizes (Together ks) (Apart ks) p f i os'
      either =
          rw (zero-add i) at (one_or_two SnapshotFilled items sizes (Together ks) (Apart ks) gs os 0 0 i p f cut parts (rw whole a) (rw whole b))

  pub snapshots_unmixed : Every (UnmixedSnapshot (snap_packets ks)) (placed items 0 0 os)
  snapshots_unmixed =
      each_placed SnapshotFilled items sizes (UnmixedSnapshot (snap_packets ks)) (snap_packets ks)
      (λ g e h a. record { held = held_from (snap_packets ks) g e h known a; unheld = none_from (snap_packets ks) g e h known a }) gs os 0 0 parts
      (λ i f a. rw (zero-add i) (rw whole at a))

-- The filled bytes, counted: those whose packet is held are all filled.
has_byte_lem : (ps : List Packet) (s : ClosedSnapshot) (p : ℕ) (q : Packet) → In q ps → mark q ≡ carrier_of p
    → get_or s.bytes p 0 ≡ get_or q.bytes (p % burst_size) 0 → has_packet_byte ps s p ≡ true
unfolding Some has_packet_byte
has_byte_lem [] s p q i e b = absurd i
has_byte_lem (x ∷ ps) s p q (inl i) e b =
    let y = ap mark i ∙ e in
    let z = b ∙ ap (λ f. get_or f.bytes (p % burst_size) 0) (sym i) in
    rw (eq-eqb, eq-eqb)
has_byte_lem (x ∷ ps) s p q (inr i) e b =
    rw (has_byte_lem ps s p q i e b) (or-true (eqb (mark x) (carrier_of p) && eqb (get_or s.bytes p 0) (get_or x.bytes (p % burst_size) 0)))

module _ (ps : List Packet) where
  abbrev filled_in : ClosedSnapshot → ℕ
  filled_in s = total (λ p. cond (is_byte_filled ps s p) 1 0) snapshot_size

  all_filled : (e : Placed ClosedSnapshot) → UnmixedSnapshot ps e
      → filled_in e.thing ≡ total (λ p. mark_at e.thing.report.held (p / burst_size)) snapshot_size
  all_filled e u =
      total_same (λ p. cond (is_byte_filled ps e.thing p) 1 0) (λ p. mark_at e.thing.report.held (p / burst_size)) snapshot_size
      (λ p l. go p l (bit_set e.thing.report.held (carrier_of p)) refl)
    where
      go : (p : ℕ) → p < snapshot_size → (t : Bool) → bit_set e.thing.report.held (carrier_of p) ≡ t
          → ◌≡◌ {A = ℕ} (cond (t && has_packet_byte ps e.thing p) 1 0) (cond t 1 0)
      go p l true b =
          let f = u.held p l b in
          let i = at_in ps f.among f.packet f.is in
          rw (has_byte_lem ps e.thing p f.packet i f.carries f.byte)
      go p l false b = refl

  -- the bytes filled number 82 for each packet held
  pub bytes_held : (os : List ClosedSnapshot) (gs : List (List Packet)) (n m : ℕ) → Pairwise SnapshotFilled gs os
      → Every (UnmixedSnapshot ps) (placed items n m os) → sum filled_in os ≡ sum (λ s. burst_size * items s) os
  unfolding Pairwise placed Every sum
  bytes_held [] gs n m h u = refl
  bytes_held (s ∷ os) [] n m h u = absurd h
  bytes_held (s ∷ os) (g ∷ gs) n m h u =
      let one =
      all_filled (record { place = n; before = m; thing = s }) u.0 ∙ rows_marked burst_size (omega arith) 20 s.report.held h.0.among in
      omega (arith, bytes_held os gs (n + 1) (m + items s) h.1 u.1)
