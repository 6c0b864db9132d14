-- One call, as the open snapshot meets it: an accepted record moves it with its bytes, packet by packet.
-- Assumes nothing.
use mathlib.Core.Path.{◌≡◌, refl, sym, ap, ◌∙◌}
use mathlib.Core.Bool.{Bool, true, false, cond, not, ◌&&◌, and-false, false≢true}
use mathlib.Core.List.{List, [], ◌∷◌, ◌++◌, map, append_assoc}
use Prim.Native.Nat.{ℕ, ◌+◌, ◌≤◌}
use native.Mathlib.Omega.{arith}
use Rattle.std.specs.Prelude.{Option, Some, None, is_some}
use Rattle.std.specs.Option.{option_or, option_and}
use lib.Dec.{eqb}
use lib.ListN.{length, length-take, length-drop}
use Rattle.bursts.specs.Bursts.{burst_size, snapshot_size}
use Rattle.record.specs.Layout.{size, packet_size, packet_bytes}
use Rattle.record.specs.Frame.{carries_burst, carries_two, kind_of, first_burst}
use Rattle.record.specs.Parts.{burst_bytes}
use Rattle.record.specs.Contents.{record_of}
use Rattle.record.specs.declared.frame.Kind.{Kind}
use Rattle.record.proofs.Types.{two_burst, burst_short}
use Rattle.clock.specs.Clock.{dated}
use Rattle.snapshot.specs.Snapshot.{is_open, is_part, cuts, follows, cut_if, joins, reported}
use Rattle.snapshot.specs.Snapshot.{step_packet, together, step_snapshot}
use Rattle.snapshot.specs.declared.Snapshot.{Snapshot}
use Rattle.snapshot.specs.declared.SnapshotReport.{SnapshotReport}
use Rattle.snapshot.specs.declared.PacketStep.{PacketStep}
use Rattle.snapshot.proofs.Facts.{by}
use Rattle.snapshot.proofs.Closing.{PacketCloses, packet_closes, lays_room}
use Rattle.state.specs.Deciding.{number_of, acceptance}
use Rattle.state.specs.declared.State.{State}
use Rattle.reader.specs.Buffers.{Buffers, copied_by, packet_after, first_after, second_after}
use Rattle.reader.specs.Steps.{input}
use Rattle.reader.proofs.Lengths.{packet_length}
use Rattle.gathering.specs.Gathering.{gather}
use Rattle.stream.specs.Running.{Call, Trace, step, called, handed_snapshot, snapshots}
use Rattle.stream.specs.Sending.{Kept}
use Rattle.stream.specs.Cutting.{at}
use Rattle.stream.specs.Bursts.{Packet, first_of, second_of, packets_of}
use Rattle.stream.proofs.Calls.{is_taken}
use Rattle.stream.proofs.Snapping.{Event, packet, events_from, bytes_with, snap_closing, takes, item, passing, snapping, snap}

-- what closes is handed out with the open bytes as they were
pub snap_out : (s : Snapshot) (b : List ℕ) → handed_snapshot (reported s) b ≡ snap_closing s b
unfolding snap_closing
snap_out s b = go (is_open s)
  where
    held : SnapshotReport
    held = record { first = s.first; held = s.held }

    go : (t : Bool) → handed_snapshot (cond t (Some held) None) b ≡ cond t (record { report = held; bytes = b } ∷ []) []
    go true = refl
    go false = refl

-- finish hands out what is open, from the first finished buffer
pub snap_end : (s : Snapshot) (b f : List ℕ) → handed_snapshot (reported s) (cond (is_open s) b f) ++ [] ≡ snap_closing s b
unfolding snap_closing
snap_end s b f = go (is_open s)
  where
    held : SnapshotReport
    held = record { first = s.first; held = s.held }

    go : (t : Bool) → handed_snapshot (cond t (Some held) None) (cond t b f) ++ [] ≡ cond t (record { report = held; bytes = b } ∷ []) []
    go true = refl
    go false = refl

-- a type byte with these bytes in a record at count d, is met as these events
abbrev Met : ℕ → ℕ → List ℕ → List Event → Type 0
Met d code bytes ev = (s : Snapshot) (b : List ℕ) (es : List Event) → length b ≡ snapshot_size
    → handed_snapshot (step_packet s d code).report b ++ snap d (step_packet s d code).next (packet_after (step_packet s d code).work bytes b) es
    ≡ snap d s b (ev ++ es)

-- a packet
met_packet : (q : Packet) → Met (at q.frame) q.code q.bytes (packet q ∷ [])
unfolding step_packet gather takes item passing bytes_with
met_packet q s b es n = go (is_part q.code) (joins s q.code) refl
  where
    d : ℕ
    d = at q.frame

    go : (p j : Bool) → is_part q.code ≡ p
        → handed_snapshot (by s d q.code p j).report b ++ snap d (by s d q.code p j).next (packet_after (by s d q.code p j).work q.bytes b) es
        ≡ cond p (cond j (gather snapping (snapping.puts q (d, s, b)) es) (snap_closing s b ++ gather snapping (snapping.opens q) es))
        (gather snapping (d, cut_if (cuts q.code) s, b) es)
    go true true e = refl
    go true false e = rw (snap_out, n)
    go false j e = refl

-- nothing is met of 0, which is no packet's type byte
met_none : (d : ℕ) (bytes : List ℕ) → Met d 0 bytes []
unfolding step_packet is_part cuts
met_none d bytes s b es n = rw and-false

-- the two packets of a record, one after the other
module _ (d c₁ c₂ : ℕ) (b₁ b₂ : List ℕ) (ev₁ ev₂ : List Event) (one : Met d c₁ b₁ ev₁) (two : Met d c₂ b₂ ev₂)
    (short : length b₁ ≤ burst_size) (s : Snapshot) (b : List ℕ) (es : List Event) (n : length b ≡ snapshot_size) where
  abbrev first_step : PacketStep
  first_step = step_packet s d c₁

  abbrev second_step : PacketStep
  second_step = step_packet first_step.next d c₂

  abbrev between : List ℕ
  between = packet_after first_step.work b₁ b

  both_met : (handed_snapshot first_step.report b ++ handed_snapshot second_step.report between)
      ++ snap d second_step.next (packet_after second_step.work b₂ between) es
      ≡ snap d s b ((ev₁ ++ ev₂) ++ es)
  both_met =
      append_assoc (handed_snapshot first_step.report b) (handed_snapshot second_step.report between) _
      ∙ ap (λ z. handed_snapshot first_step.report b ++ z)
      (two first_step.next between es (packet_length first_step.work b₁ b (λ h. omega (arith, lays_room s d c₁ h)) ∙ n))
      ∙ one s b (ev₂ ++ es) n
      ∙ rw (sym (append_assoc ev₁ ev₂ es))

-- what the two finished buffers hand out is what the two packets close, in order
outs_are : (x y : PacketStep) → PacketCloses x.work.work x.report → PacketCloses y.work.work y.report → (o a f s : List ℕ)
    → handed_snapshot (together x y).first (cond x.work.work.copies o (copied_by y.work.work.copies a f))
    ++ handed_snapshot (together x y).second (copied_by (x.work.work.copies && y.work.work.copies) a s)
    ≡ handed_snapshot x.report o ++ handed_snapshot y.report a
outs_are x y p q o a f s = rw (p.copied, q.copied) (go x.report y.report)
  where
    go : (t u : Option SnapshotReport)
        → handed_snapshot (option_or t u) (cond (is_some t) o (copied_by (is_some u) a f))
        ++ handed_snapshot (option_and t u) (copied_by (is_some t && is_some u) a s)
        ≡ handed_snapshot t o ++ handed_snapshot u a
    go (Some t) (Some u) = refl
    go (Some t) None = refl
    go None (Some u) = refl
    go None None = refl

-- the packets of a record, by its kind
record Meeting (n : ℕ) (x : Kept) : Type 0 where
  one : List Event
  two : List Event
  are : map packet (packets_of n x) ≡ one ++ two
  first : Met (at x) (first_burst (record_of x.bytes).kind (record_of x.bytes).frame_code) (burst_bytes (packet_bytes x.bytes) false) one
  second : Met (at x) (record_of x.bytes).second_code (burst_bytes (packet_bytes x.bytes) true) two

meeting : (n : ℕ) (x : Kept) → length x.bytes ≡ size → Meeting n x
unfolding record_of
meeting n x h = go (carries_two k) (carries_burst k) refl refl
  where
    p : List ℕ
    p = packet_bytes x.bytes

    k : Kind
    k = kind_of p

    l : length p ≡ packet_size
    l = simp (length-take, length-drop) (omega arith)

    go : (t b : Bool) → carries_two k ≡ t → carries_burst k ≡ b → Meeting n x
    go true true e f = record {
      one = packet (first_of n x) ∷ [];
      two = packet (second_of (n + 1) x) ∷ [];
      are = rw e;
      first = rw f (met_packet (first_of n x));
      second = rw e (met_packet (second_of (n + 1) x));
    }
    go true false e f = absurd (false≢true (sym f ∙ two_burst k e))
    go false true e f = record {
      one = packet (first_of n x) ∷ [];
      two = [];
      are = rw (e, f);
      first = rw f (met_packet (first_of n x));
      second = rw e (met_none (at x) _);
    }
    go false false e f = record { one = []; two = []; are = rw (e, f); first = rw f (met_none (at x) _); second = rw e (met_none (at x) _) }

-- the record's own event comes first
met_events : (c : ℕ) (s : Snapshot) (o : List ℕ) (n : ℕ) (x : Kept) (xs : List Kept)
    → snap (at x) (cut_if (not (eqb (at x) (c + 1))) s) o (map packet (packets_of n x) ++ events_from (n + length (packets_of n x)) xs)
    ≡ snap c s o (events_from n (x ∷ xs))
unfolding events_from gather takes passing
met_events c s o n x xs = refl

-- an accepted record, at the count at which it was sent
module _ (s : State) (b : Buffers) (x : Kept) (e : number_of (input s b x.bytes) ≡ 0) (q : dated s.clock (record_of x.bytes) ≡ at x)
    (n : ℕ) (t : Trace) (xs : List Kept) where
  abbrev FromSnaps : Call → Type 0
  FromSnaps c = snapshots t ≡ snap (at x) c.result.state.snapshot c.left.open_snapshot (events_from (n + length (packets_of n x)) xs)
      → snapshots (step c t) ≡ snap s.clock.last s.snapshot b.open_snapshot (events_from n (x ∷ xs))

  pub snaps_call : length b.open_snapshot ≡ snapshot_size → length x.bytes ≡ size → FromSnaps (called s b x.bytes)
  unfolding acceptance snapshots step_snapshot
  snaps_call z h = rw (is_taken s b x e q) (λ g. go g)
    where
      m : Meeting n x
      m = meeting n x h

      o : List ℕ
      o = b.open_snapshot

      d : ℕ
      d = at x

      s₁ : Snapshot
      s₁ = cut_if (not (follows s.clock d)) s.snapshot

      c₁ : ℕ
      c₁ = first_burst (record_of x.bytes).kind (record_of x.bytes).frame_code

      c₂ : ℕ
      c₂ = (record_of x.bytes).second_code

      one : PacketStep
      one = step_packet s₁ d c₁

      two : PacketStep
      two = step_packet one.next d c₂

      p : List ℕ
      p = packet_bytes x.bytes

      es : List Event
      es = events_from (n + length (packets_of n x)) xs

      go : snapshots t ≡ snap d two.next (packet_after two.work (burst_bytes p true) (packet_after one.work (burst_bytes p false) o)) es
          → (handed_snapshot (together one two).first (first_after one.work two.work p o b.first_snapshot)
          ++ handed_snapshot (together one two).second (second_after one.work two.work p o b.second_snapshot)) ++ snapshots t
          ≡ snap s.clock.last s.snapshot o (events_from n (x ∷ xs))
      go g =
          let o₁ = packet_after one.work (burst_bytes p false) o in
          rw (outs_are one two (packet_closes s₁ d c₁) (packet_closes one.next d c₂) o o₁ b.first_snapshot b.second_snapshot, g)
          (both_met d c₁ c₂ (burst_bytes p false) (burst_bytes p true) m.one m.two m.first m.second (burst_short p false) s₁ o es z
          ∙ ap (λ ev. snap d s₁ o (ev ++ es)) (sym m.are)
          ∙ met_events s.clock.last s.snapshot o n x xs)
