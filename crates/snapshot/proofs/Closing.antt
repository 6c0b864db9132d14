-- The open snapshot's bytes are copied to a finished buffer just when a snapshot is reported as closed; of what isn't closed nothing is reported.
-- Assumes nothing.
use mathlib.Core.Path.{◌≡◌, refl, sym, ◌∙◌}
use mathlib.Core.Bool.{Bool, true, false, cond, not, ◌&&◌, ◌||◌, true≢false}
use Prim.Native.Nat.{ℕ, ◌+◌, ◌≤◌}
use native.Mathlib.Omega.{arith}
use Rattle.std.specs.Prelude.{Option, Some, None, is_some}
use Rattle.std.specs.Option.{option_or, option_and}
use Rattle.buffers.specs.Working.{no_work, closing_work}
use Rattle.buffers.specs.declared.work.Work.{Work}
use Rattle.buffers.proofs.Closing.{Closes, closes_none, closes}
use Rattle.snapshot.specs.Snapshot.{is_open, is_part, follows, cut_if, joins, reported, packet_work, step_packet, together, step_snapshot}
use Rattle.bursts.specs.Bursts.{burst_size, snapshot_size}
use Rattle.clock.specs.declared.Clock.{Clock}
use Rattle.snapshot.specs.declared.Snapshot.{Snapshot}
use Rattle.snapshot.specs.declared.SnapshotReport.{SnapshotReport}
use Rattle.snapshot.specs.declared.PacketWork.{PacketWork}
use Rattle.snapshot.specs.declared.PacketStep.{PacketStep}
use Rattle.snapshot.proofs.Facts.{mark_small, by}

abbrev pub PacketCloses : Work → Option SnapshotReport → Type 0
PacketCloses w r = Closes is_some None w r

pub no_packet : (b c : Bool) → PacketCloses (record { copies = false; clears = b; lays = c }) None
no_packet b c = closes_none is_some None refl b c

pub packets_report : (s : Snapshot) (b c : Bool) → (is_open s ≡ true → b ≡ true)
    → PacketCloses (record { copies = is_open s; clears = b; lays = c }) (reported s)
packets_report s b c h = closes is_some None refl b c (Some (record { first = s.first; held = s.held })) refl (is_open s) h

module _ (s : Snapshot) (d code : ℕ) where
  pub packet_closes : PacketCloses (step_packet s d code).work.work (step_packet s d code).report
  unfolding step_packet
  packet_closes = go (is_part code) (joins s code)
    where
      go : (p j : Bool) → PacketCloses (by s d code p j).work.work (by s d code p j).report
      go true true = no_packet false true
      go true false = packets_report s true true (λ e. refl)
      go false j = no_packet false false

  -- just a packet of a snapshot's is laid
  pub lays_part : (step_packet s d code).work.work.lays ≡ is_part code
  unfolding step_packet
  lays_part = go (is_part code) (joins s code)
    where
      go : (p j : Bool) → (by s d code p j).work.work.lays ≡ p
      go true true = refl
      go true false = refl
      go false j = refl

  -- a packet is laid where it has room
  pub lays_room : (step_packet s d code).work.work.lays ≡ true → (step_packet s d code).work.at + burst_size ≤ snapshot_size
  unfolding step_packet
  lays_room = go (is_part code) (joins s code) refl
    where
      go : (p j : Bool) → is_part code ≡ p → (by s d code p j).work.work.lays ≡ true → (by s d code p j).work.at + burst_size ≤ snapshot_size
      go true true e h = omega (arith, mark_small code e)
      go true false e h = omega (arith, mark_small code e)
      go false j e h = absurd (true≢false (sym h))

-- of a record's two packets: what closes first goes to the first finished buffer, and to the second only what closes after it
pub record SnapshotsClose (one two : PacketWork) (first second : Option SnapshotReport) : Type 0 where
  pub first_closed : is_some first ≡ (one.work.copies || two.work.copies)
  pub second_closed : is_some second ≡ (one.work.copies && two.work.copies)
  pub one_cleared : one.work.copies ≡ true → one.work.clears ≡ true
  pub two_cleared : two.work.copies ≡ true → two.work.clears ≡ true
  pub no_first : is_some first ≡ false → first ≡ None
  pub no_second : is_some second ≡ false → second ≡ None

nothing : (r : Option SnapshotReport) → is_some r ≡ false → r ≡ None
nothing None e = refl
nothing (Some r) e = absurd (true≢false e)

either : (p q : Option SnapshotReport) → is_some (option_or p q) ≡ (is_some p || is_some q)
either None q = refl
either (Some r) q = refl

both : (p q : Option SnapshotReport) → is_some (option_and p q) ≡ (is_some p && is_some q)
both None q = refl
both (Some r) q = refl

abbrev Together : PacketStep → PacketStep → Type 0
Together x y = SnapshotsClose (together x y).one (together x y).two (together x y).first (together x y).second

both_close : (x y : PacketStep) → PacketCloses x.work.work x.report → PacketCloses y.work.work y.report → Together x y
both_close x y p q = record {
  first_closed = rw (p.copied, q.copied) (either x.report y.report);
  second_closed = rw (p.copied, q.copied) (both x.report y.report);
  one_cleared = λ k. p.cleared (sym p.copied ∙ k);
  two_cleared = λ k. q.cleared (sym q.copied ∙ k);
  no_first = nothing (together x y).first;
  no_second = nothing (together x y).second;
}

pub step_closes : (c : Clock) (s : Snapshot) (d one two : ℕ)
    → SnapshotsClose (step_snapshot c s d one two).one (step_snapshot c s d one two).two
    (step_snapshot c s d one two).first (step_snapshot c s d one two).second
unfolding step_snapshot
step_closes c s d one two =
    let t = cut_if (not (follows c d)) s in
    let x = step_packet t d one in
    both_close x (step_packet x.next d two) (packet_closes t d one) (packet_closes x.next d two)

pub no_snapshots : SnapshotsClose (packet_work no_work 0) (packet_work no_work 0) None None
no_snapshots = record {
  first_closed = refl;
  second_closed = refl;
  one_cleared = λ e. absurd (true≢false (sym e));
  two_cleared = λ e. absurd (true≢false (sym e));
  no_first = λ e. refl;
  no_second = λ e. refl;
}

-- finish closes the open one, into the first
pub end_closes : (s : Snapshot) → SnapshotsClose (packet_work (closing_work (is_open s)) 0) (packet_work no_work 0) (reported s) None
end_closes s = go (is_open s)
  where
    go : (t : Bool) → SnapshotsClose (packet_work (closing_work t) 0) (packet_work no_work 0)
        (cond t (Some (record { first = s.first; held = s.held })) None) None
    go true = record {
      first_closed = refl;
      second_closed = refl;
      one_cleared = λ e. e;
      two_cleared = λ e. absurd (true≢false (sym e));
      no_first = λ e. absurd (true≢false e);
      no_second = λ e. refl;
    }
    go false = no_snapshots
