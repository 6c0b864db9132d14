-- The snapshots of the kept records: two neighbouring packets of types 36 to 55 go into one exactly when 02's rule joins them, said of
-- what was kept (request 2).
-- Assumes nothing.
use mathlib.Core.Path.{◌≡◌, refl, sym, ap, subst, ◌∙◌}
use mathlib.Core.Bool.{Bool, true, false, cond, not, ◌&&◌, ◌||◌, or-true, or-false, true≢false, false≢true}
use mathlib.Core.List.{List, [], ◌∷◌, ◌++◌, map}
use mathlib.Core.Logic.{inl, inr}
use Prim.Native.Nat.{ℕ, suc, ◌+◌, ◌-◌, ◌^◌, ◌≤◌}
use native.Mathlib.Nat.{zero-add}
use native.Mathlib.Omega.{arith}
use lib.Dec.{eqb, ltb}
use lib.ListN.{length}
use lib.Pow.{pow_pos}
use borrow.Author.Tests.{eqb-true, eqb-false, eq-eqb, ne_eqb, ltb-true, ltb-false, lt-ltb}
use Rattle.prelude.specs.Marks.{marked}
use Rattle.prelude.proofs.Conds.{cases, two}
use Rattle.record.specs.Frame.{carries_burst, carries_two}
use Rattle.record.specs.Contents.{record_of}
use Rattle.snapshot.specs.Snapshot.{is_open, no_snapshot, packet_type, cuts, joins}
use Rattle.snapshot.specs.declared.Snapshot.{Snapshot}
use Rattle.gathering.specs.Gathering.{Gathers, Grouped}
use Rattle.gathering.specs.Laying.{put_all, Rising}
use Rattle.gathering.specs.Lists.{Some, total}
use Rattle.gathering.specs.Places.{At}
use Rattle.gathering.proofs.Grouping.{gathered}
use Rattle.gathering.proofs.Laying.{put_more}
use Rattle.gathering.proofs.Marking.{marks_from, marks_some}
use Rattle.gathering.proofs.Members.{In, unique}
use Rattle.stream.specs.Running.{ClosedSnapshot}
use Rattle.stream.specs.Sending.{next_real, Kept}
use Rattle.stream.specs.Cutting.{at, unaccepted, lost_between}
use Rattle.stream.specs.Bursts.{Packet, first_of, second_of, packets_from, burst_packets, snap_packets, cut_between, Together, Apart}
use Rattle.stream.specs.Snapshots.{mark, first_brought}
use Rattle.stream.proofs.Calls.{no_bytes}
use Rattle.stream.proofs.Chains.{Chain, rising_counts}
use Rattle.stream.proofs.Lost.{unaccepted_lost}
use Rattle.stream.proofs.Between.{numbered, between_same, between_more}
use Rattle.stream.proofs.Snapping.{Event, frame, packet, events_from, bytes_with, snap_closing, takes, item, passing, snapping, snap, taken_are}

-- a snapshot with these packets, as it is handed out
unfoldable pub snap_of : List Packet → ClosedSnapshot
snap_of g = record { report = record { first = first_brought g; held = marks_from mark 0 g }; bytes = put_all bytes_with no_bytes g }

held_open : (h : Packet) (t : List Packet) → not (eqb (marks_from mark 0 (h ∷ t)) 0) ≡ true
unfolding put_all marked
held_open h t =
    let m = 0 + 2 ^ mark h in
    let some = marks_some mark t m (omega (arith, pow_pos (mark h))) in
    rw (ne_eqb (marks_from mark m t) 0 (λ z. omega arith))

-- the cut mark by what was lost since, n of m, and by what cut since
more_lost : (c b : Bool) (l n m : ℕ) → m ≤ l → l ≤ n → c ≡ (not (eqb l m) || b) → (not (eqb n l) || c) ≡ (not (eqb n m) || b)
more_lost c b l n m p q e =
    cases (eqb n l)
    (λ t. rw t (rw (eqb-true n l t) e))
    (λ t. rw t (let d = eqb-false n l t in rw (ne_eqb n m (λ z. d (omega arith)))))

nothing_lost : (l m : ℕ) (b c : Bool) → c ≡ (not (eqb l m) || b) → not c ≡ true → (l ≡ m) × (b ≡ false)
nothing_lost l m b c e h = go (eqb l m) b refl (ap not (sym e) ∙ h)
  where
    go : (t b : Bool) → eqb l m ≡ t → not (not t || b) ≡ true → (l ≡ m) × (b ≡ false)
    go true true t h = absurd (false≢true h)
    go true false t h = (eqb-true l m t, refl)
    go false b t h = absurd (false≢true h)

-- a packet more that may cut
turned : (c l b : Bool) → ((true && c) || (l || b)) ≡ (l || (b || c))
turned true l b = sym (ap (λ z. l || z) (or-true b) ∙ or-true l)
turned false l b = ap (λ z. l || z) (sym (or-false b))

neither : (b c : Bool) → (b || c) ≡ false → (b ≡ false) × (c ≡ false)
neither true c e = absurd (true≢false e)
neither false c e = (refl, e)

not_true : (b : Bool) → not b ≡ true → b ≡ false
not_true true e = absurd (false≢true e)
not_true false e = refl

-- the kept records ks
module _ (ks : List Kept) (c₀ k₀ : ℕ) (chained : Chain c₀ k₀ 0 ks) where
  counts : Rising at c₀ ks
  counts = rising_counts ks c₀ k₀ 0 chained

  -- counts between two kept records, all kept or not, by what was lost
  module _ (p f : Kept) (i : In p ks) (j : In f ks) (up : at p ≤ at f) where
    same_frame : at p ≡ at f → p ≡ f
    same_frame e = unique at ks c₀ p f counts i j e

    all_kept : f.lost ≡ p.lost → unaccepted ks (at p) (at f) ≡ 0
    all_kept e = go (ltb (at p) (at f)) refl
      where
        go : (t : Bool) → ltb (at p) (at f) ≡ t → unaccepted ks (at p) (at f) ≡ 0
        go true t = unaccepted_lost ks c₀ k₀ 0 chained p f i j (ltb-true (at p) (at f) t) ∙ none
          where
            none : lost_between p f ≡ 0
            none = omega arith
        go false t =
            let z : at f - (at p + 1) ≡ 0 = omega (arith, ltb-false (at p) (at f) t) in
            ap (total _) z ∙ unfold total in refl

    kept_all : p.lost ≤ f.lost → unaccepted ks (at p) (at f) ≡ 0 → f.lost ≡ p.lost
    kept_all l e =
        cases (ltb (at p) (at f))
        (λ t. omega (arith, unaccepted_lost ks c₀ k₀ 0 chained p f i j (ltb-true (at p) (at f) t)))
        (λ t. ap (λ (y : Kept). y.lost) (sym (same_frame (omega (arith, up, ltb-false (at p) (at f) t)))))

  -- what is to come: count c next, so many lost so far, and packet number n next
  record Framed (c lost : ℕ) (x : Kept) : Type 0 where
    kept : In x ks
    counted : at x + lost ≡ c + x.lost
    losing : lost ≤ x.lost

  record Packed (c lost n : ℕ) (q : Packet) : Type 0 where
    number : q.number ≡ n
    is : At n q (burst_packets ks)
    now : at q.frame + 1 ≡ c
    lost_is : q.frame.lost ≡ lost
    kept : In q.frame ks

  unfoldable Coming : ℕ → ℕ → ℕ → List Event → Type 0
  Coming c lost n [] = Unit {0}
  Coming c lost n (frame x ∷ es) = Framed c lost x × Coming (at x + 1) x.lost n es
  Coming c lost n (packet q ∷ es) = Packed c lost n q × Coming c lost (n + 1) es

  coming : (xs : List Kept) (n c k l : ℕ) → Chain c k l xs → ((x : Kept) → In x xs → In x ks)
      → ((i : ℕ) (q : Packet) → At i q (packets_from n xs) → At (n + i) q (burst_packets ks)) → Coming c l n (events_from n xs)
  unfolding Chain Coming events_from packets_from Some At
  coming [] n c k l w a b = tt
  coming (x ∷ xs) n c k l w a b = (
    record { kept = a x (inl refl); counted = w.0.counted; losing = w.0.losing },
    go (carries_two (record_of x.bytes).kind) (carries_burst (record_of x.bytes).kind) b
        (λ m. coming xs m (at x + 1) (next_real x.serial x.bytes) x.lost w.1 (λ y i. a y (inr i))),
  )
    where
      these : Bool → Bool → List Packet
      these t u = cond t (first_of n x ∷ second_of (n + 1) x ∷ []) (cond u (first_of n x ∷ []) [])

      packed : (m : ℕ) (q : Packet) → q.number ≡ m → q.frame ≡ x → At m q (burst_packets ks) → Packed (at x + 1) x.lost m q
      packed m q e f i = record {
        number = e;
        is = i;
        now = ap (λ y. at y + 1) f;
        lost_is = ap (λ y. y.lost) f;
        kept = subst (λ y. In y ks) (sym f) (a x (inl refl));
      }

      go : (t u : Bool) → ((i : ℕ) (q : Packet) → At i q (these t u ++ packets_from (n + length (these t u)) xs) → At (n + i) q (burst_packets ks))
          → ((m : ℕ) → ((i : ℕ) (q : Packet) → At i q (packets_from m xs) → At (m + i) q (burst_packets ks)) → Coming (at x + 1) x.lost m (events_from m xs))
          → Coming (at x + 1) x.lost n (map packet (these t u) ++ events_from (n + length (these t u)) xs)
      go true u b ih =
          let zero_is : n + 0 ≡ n = omega arith in
          let two_is : n + 2 ≡ n + 1 + 1 = omega arith in
          let here = subst (λ m. At m (first_of n x) (burst_packets ks)) zero_is (b 0 (first_of n x) refl) in
          let rest = ih (n + 2) (λ i q j. subst (λ m. At m q (burst_packets ks)) (next_is i) (b (suc (suc i)) q j)) in (
            packed n (first_of n x) refl refl here,
            (
              packed (n + 1) (second_of (n + 1) x) refl refl (b 1 (second_of (n + 1) x) refl),
              subst (λ m. Coming (at x + 1) x.lost m (events_from (n + 2) xs)) two_is rest,
            ),
          )
        where
          next_is : (i : ℕ) → n + suc (suc i) ≡ n + 2 + i
          next_is i = omega arith
      go false true b ih =
          let zero_is : n + 0 ≡ n = omega arith in
          let here = rw zero_is at (b 0 (first_of n x) refl) in
          (packed n (first_of n x) refl refl here, ih (n + 1) (λ i q j. subst (λ m. At m q (burst_packets ks)) (next_is i) (b (suc i) q j)))
        where
          next_is : (i : ℕ) → n + suc i ≡ n + 1 + i
          next_is i = omega arith
      go false false b ih =
          let zero_is : n + 0 ≡ n = omega arith in
          subst (λ m. Coming (at x + 1) x.lost m (events_from (n + 0) xs)) zero_is
          (ih (n + 0) (λ i q j. rw (same_is i) at (b i q j)))
        where
          same_is : (i : ℕ) → n + i ≡ n + 0 + i
          same_is i = omega arith

  -- nothing is open; or h ∷ t are, p the last of them, packet m the last met
  record Shut (g : ℕ × Snapshot × List ℕ) (es : List Event) : Type 0 where
    count : ℕ
    lost : ℕ
    number : ℕ
    is : g.1.held ≡ 0
    comes : Coming count lost number es

  record Open (h : Packet) (t : List Packet) (p : Packet) (g : ℕ × Snapshot × List ℕ) (es : List Event) : Type 0 where
    lost : ℕ
    number : ℕ
    first : g.1.first ≡ at h.frame
    held : g.1.held ≡ marks_from mark 0 (h ∷ t)
    last : g.1.last_type ≡ packet_type p.code
    bytes : g.2 ≡ put_all bytes_with no_bytes (h ∷ t)
    kept : In p.frame ks
    before : at p.frame ≤ g.0
    since : p.frame.lost ≤ lost
    numbers : p.number ≤ number
    cut : g.1.cut ≡ (not (eqb lost p.frame.lost) || cut_between (burst_packets ks) p.number number)
    comes : Coming (g.0 + 1) lost (number + 1) es

  is_open_lem : (h : Packet) (t : List Packet) (p : Packet) (g : ℕ × Snapshot × List ℕ) (es : List Event) → Open h t p g es → is_open g.1 ≡ true
  is_open_lem h t p g es o = rw o.held (held_open h t)

  -- a packet opens one
  anew : (c l n : ℕ) (x : Event) (es : List Event) → takes x ≡ true → Coming c l n (x ∷ es) → Open (item x) [] (item x) (snapping.opens (item x)) es
  unfolding takes item Coming put_all marked
  anew c l n (frame x) es e w = absurd (false≢true e)
  anew c l n (packet q) es e w =
      let k = w.0 in
      record {
        lost = q.frame.lost;
        number = q.number;
        first = refl;
        held = rw zero-add refl;
        last = refl;
        bytes = refl;
        kept = k.kept;
        before = omega arith;
        since = omega arith;
        numbers = omega arith;
        cut = rw (eq-eqb, between_same) refl;
        comes = rw (k.now, k.lost_is, k.number) w.1;
      }

  shut_passes : (g : ℕ × Snapshot × List ℕ) (x : Event) (es : List Event) → Shut g (x ∷ es) → Shut (passing x g) es
  unfolding passing Coming
  shut_passes g (frame x) es s = record { count = _; lost = _; number = _; is = s.is; comes = s.comes.1 }
  shut_passes g (packet q) es s = record { count = _; lost = _; number = _; is = s.is; comes = s.comes.1 }

  -- the next packet is the one after the last met
  one_more : (p q : Packet) (c l m : ℕ) → Packed c l (m + 1) q → p.number ≤ m
      → cut_between (burst_packets ks) p.number q.number ≡ (cut_between (burst_packets ks) p.number m || cuts q.code)
  one_more p q c l m k h =
      ap (cut_between (burst_packets ks) p.number) k.number
      ∙ between_more (burst_packets ks) 0 (m + 1) p.number m q (numbered ks 0) k.is (zero-add (m + 1)) h

  open_passes : (h : Packet) (t : List Packet) (p : Packet) (g : ℕ × Snapshot × List ℕ) (x : Event) (es : List Event) → Open h t p g (x ∷ es)
      → Open h t p (passing x g) es
  unfolding passing Coming
  open_passes h t p g (frame x) es o =
      let k = o.comes.0 in
      let i = is_open_lem h t p g (frame x ∷ es) o in
      record {
        lost = x.lost;
        number = o.number;
        first = o.first;
        held = o.held;
        last = o.last;
        bytes = o.bytes;
        kept = o.kept;
        before = omega arith;
        since = omega (arith, o.since, k.losing);
        numbers = o.numbers;
        cut = rw (i, next_is) (more_lost g.1.cut _ o.lost x.lost p.frame.lost o.since k.losing o.cut);
        comes = o.comes.1;
      }
    where
      next_is : eqb (at x) (g.0 + 1) ≡ eqb x.lost o.lost
      next_is =
          cases (eqb x.lost o.lost)
          (λ e. rw e (eq-eqb (at x) (g.0 + 1) (omega (arith, eqb-true x.lost o.lost e))))
          (λ e. rw e (ne_eqb (at x) (g.0 + 1) (λ z. eqb-false x.lost o.lost e (omega (arith, o.comes.0.counted)))))
  open_passes h t p g (packet q) es o =
      let k = o.comes.0 in
      let i = is_open_lem h t p g (packet q ∷ es) o in
      let b = cut_between (burst_packets ks) p.number o.number in
      let c = cut_between (burst_packets ks) p.number (o.number + 1) in
      let lost = not (eqb o.lost p.frame.lost) in
      let more = ap (cut_between (burst_packets ks) p.number) (sym k.number) ∙ one_more p q _ _ o.number k o.numbers in
      record {
        lost = o.lost;
        number = o.number + 1;
        first = o.first;
        held = o.held;
        last = o.last;
        bytes = o.bytes;
        kept = o.kept;
        before = o.before;
        since = o.since;
        numbers = omega (arith, o.numbers);
        cut = rw (i, o.cut, more) (turned (cuts q.code) lost b);
        comes = o.comes.1;
      }

  open_joins : (h : Packet) (t : List Packet) (p : Packet) (g : ℕ × Snapshot × List ℕ) (x : Event) (es : List Event) → takes x ≡ true
      → joins g.1 (item x).code ≡ true → Open h t p g (x ∷ es)
      → Together ks p (item x) × Open h (t ++ (item x ∷ [])) (item x) (snapping.puts (item x) g) es
  unfolding takes item joins Coming
  open_joins h t p g (frame x) es e j o = absurd (false≢true e)
  open_joins h t p g (packet q) es e j o =
      let k = o.comes.0 in
      let a = (two (is_open g.1) _ j).1 in
      let b = two (ltb g.1.last_type (packet_type q.code)) _ a in
      let c = two (not g.1.cut) (not (cuts q.code)) b.1 in
      let none = nothing_lost o.lost p.frame.lost _ g.1.cut o.cut c.0 in
      let quiet : cuts q.code ≡ false = not_true (cuts q.code) c.1 in
      let up : at p.frame ≤ at q.frame = omega (arith, o.before, k.now) in (
        record {
          rising = omega (arith, ltb-true g.1.last_type (packet_type q.code) b.0, o.last);
          kept = all_kept p.frame q.frame o.kept k.kept up (omega (arith, k.lost_is, none.0));
          quiet = one_more p q _ _ o.number k o.numbers ∙ rw (none.1, quiet);
        },
        record {
          lost = q.frame.lost;
          number = q.number;
          first = o.first;
          held = rw o.held (sym (put_more (λ y n. marked n (mark y)) (h ∷ t) 0 q));
          last = refl;
          bytes = rw o.bytes (sym (put_more bytes_with (h ∷ t) no_bytes q));
          kept = k.kept;
          before = omega (arith, k.now);
          since = omega arith;
          numbers = omega arith;
          cut = rw (eq-eqb q.frame.lost q.frame.lost refl, between_same (burst_packets ks) q.number) refl;
          comes = rw (k.lost_is, k.number) o.comes.1;
        },
      )

  open_parts : (h : Packet) (t : List Packet) (p : Packet) (g : ℕ × Snapshot × List ℕ) (x : Event) (es : List Event) → takes x ≡ true
      → joins g.1 (item x).code ≡ false → Open h t p g (x ∷ es) → Apart ks p (item x)
  unfolding takes item joins Coming
  open_parts h t p g (frame x) es e j o w = false≢true e
  open_parts h t p g (packet q) es e j o w =
      let k = o.comes.0 in
      let i = is_open_lem h t p g (packet q ∷ es) o in
      let up : at p.frame ≤ at q.frame = omega (arith, o.before, k.now) in
      let l = kept_all p.frame q.frame o.kept k.kept up (omega (arith, o.since, k.lost_is)) w.kept in
      let more = sym (one_more p q _ _ o.number k o.numbers) ∙ w.quiet in
      let none = neither (cut_between (burst_packets ks) p.number o.number) (cuts q.code) more in
      let u = lt-ltb g.1.last_type (packet_type q.code) (omega (arith, w.rising, o.last)) in
      let z = eq-eqb o.lost p.frame.lost (omega (arith, l, k.lost_is)) in
      true≢false (sym (rw (i, u, o.cut, z, none.0, none.1) refl) ∙ j)

  snaps : Gathers snapping (Together ks) (Apart ks) snap_of Shut Open
  snaps = record {
    shut_closes = λ g es s. unfold snap_closing in rw s.is refl;
    shut_passes = λ g x es e s. shut_passes g x es s;
    shut_opens = λ g x es e s. (unfold joins in rw s.is refl, anew s.count s.lost s.number x es e s.comes);
    closes = λ h t p g es o. unfold snap_closing snap_of in rw (o.held, held_open h t, o.first, o.bytes) refl;
    passes = λ h t p g x es e o. open_passes h t p g x es o;
    joins = λ h t p g x es e j o. open_joins h t p g x es e j o;
    parts = λ h t p g x es e j o. (open_parts h t p g x es e j o, anew (g.0 + 1) o.lost (o.number + 1) x es e o.comes);
  }

  -- from nothing open: the snapshots handed out are some cutting of the packets of types 36 to 55
  pub snapped : (c : ℕ) (b : List ℕ) → Grouped (Together ks) (Apart ks) snap_of (snap_packets ks) (snap c no_snapshot b (events_from 0 ks))
  snapped c b =
      let all = coming ks 0 c₀ k₀ 0 chained (λ x i. i) (λ i q a. subst (λ (m : ℕ). At m q (burst_packets ks)) (sym (zero-add i)) a) in
      let s : Shut (c, no_snapshot, b) (events_from 0 ks) = record { count = _; lost = _; number = _; is = refl; comes = all } in
      subst (λ (qs : List Packet). Grouped (Together ks) (Apart ks) snap_of qs (snap c no_snapshot b (events_from 0 ks))) (taken_are ks 0)
      (gathered snapping (Together ks) (Apart ks) snap_of Shut Open snaps (events_from 0 ks) (c, no_snapshot, b) s)
