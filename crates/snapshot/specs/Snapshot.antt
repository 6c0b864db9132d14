-- The open snapshot of a burst (02, request 2). Counts are full ones (02, request 1).
-- Assumes nothing.
use Rattle.std.specs.Prelude.{ℕ, ◌+◌, ◌-◌, ◌^◌, Bool, true, false, cond, not, ◌&&◌, ◌||◌, eqb, ltb, leb, Option, Some, None}
use Rattle.std.specs.Option.{option_or, option_and}
use Rattle.prelude.specs.Marks.{bit_set, marked}
use Rattle.buffers.specs.Working.{no_work}
use Rattle.buffers.specs.declared.work.Work.{Work}
use Rattle.bursts.specs.Bursts.{first_packet, packet_place}
use Rattle.record.specs.Layout.{type_in}
use Rattle.clock.specs.declared.Clock.{Clock}
use Rattle.snapshot.specs.declared.Snapshot.{Snapshot}
use Rattle.snapshot.specs.declared.SnapshotReport.{SnapshotReport}
use Rattle.snapshot.specs.declared.PacketWork.{PacketWork}
use Rattle.snapshot.specs.declared.PacketStep.{PacketStep}
use Rattle.snapshot.specs.declared.SnapshotStep.{SnapshotStep}

-- a snapshot is open when it holds a packet: "a snapshot open with no packet" is none
abbrev pub is_open : Snapshot → Bool
is_open s = not (eqb s.held 0)

abbrev pub no_snapshot : Snapshot
no_snapshot = record { first = 0; held = 0; last_type = 0; cut = false }

-- of a burst packet's type byte: its type, and whether it is one of a snapshot's, "types 36 to 55"
abbrev pub packet_type : ℕ → ℕ
packet_type code = type_in code

unfoldable pub is_part : ℕ → Bool
is_part code = leb first_packet (packet_type code) && leb (packet_type code) 55

-- "bit 6 was set in no burst packet's type byte since, nor in its own": so it cuts, whatever the packet's type. In type 56 it is a
-- timing bit (000, section 2.2), and cuts too; docs/DECISIONS.md
unfoldable pub cuts : ℕ → Bool
cuts code = bit_set code 6

-- the mark of a packet of types 36 to 55
abbrev pub mark_of : ℕ → ℕ
mark_of code = packet_type code - first_packet

-- with the mark, "every count since was accepted": none lies between the last accepted record and one at count d
abbrev pub follows : Clock → ℕ → Bool
follows c d = eqb d (c.last + 1)

-- since its last packet a count wasn't accepted, or a packet came that cuts
abbrev pub cut_if : Bool → Snapshot → Snapshot
cut_if b s = record { first = s.first; held = s.held; last_type = s.last_type; cut = (is_open s && b) || s.cut }

-- "A packet of 36 to 55 joins the open snapshot exactly when its type is above the last one held, every count since was accepted, and
-- bit 6 was set in no burst packet's type byte since, nor in its own"
unfoldable pub joins : Snapshot → ℕ → Bool
joins s code = is_open s && (ltb s.last_type (packet_type code) && (not s.cut && not (cuts code)))

abbrev pub joined : Snapshot → ℕ → Snapshot
joined s code = record { first = s.first; held = marked s.held (mark_of code); last_type = packet_type code; cut = false }

abbrev pub started : ℕ → ℕ → Snapshot
started d code = record { first = d; held = 2 ^ mark_of code; last_type = packet_type code; cut = false }

-- "reports ... are as for accumulations"
abbrev pub reported : Snapshot → Option SnapshotReport
reported s = cond (is_open s) (Some (record { first = s.first; held = s.held })) None

-- what is done to the open snapshot's bytes; the packet's own go where its type has them
abbrev pub packet_work : Work → ℕ → PacketWork
packet_work w at = record { work = w; at = at }

abbrev pub lays : ℕ → Bool → Bool → PacketWork
lays code copies clears = packet_work (record { copies = copies; clears = clears; lays = true }) (packet_place (packet_type code))

-- a packet that is none of a snapshot's
abbrev pub passes : Snapshot → ℕ → PacketStep
passes s code = record { next = cut_if (cuts code) s; report = None; work = packet_work no_work 0 }

abbrev pub extends : Snapshot → ℕ → PacketStep
extends s code = record { next = joined s code; report = None; work = lays code false false }

-- "otherwise the open one closes and a new one opens"
abbrev pub renews : Snapshot → ℕ → ℕ → PacketStep
renews s d code = record { next = started d code; report = reported s; work = lays code (is_open s) true }

-- a packet with this type byte, in a record at count d. A code of 0 is no packet's, and changes nothing
unfoldable pub step_packet : Snapshot → ℕ → ℕ → PacketStep
step_packet s d code = cond (is_part code) (cond (joins s code) (extends s code) (renews s d code)) (passes s code)

-- the two packets of a record, one after the other: "A frame can close two ... filled in order". What closes first is what the first
-- closes, or else the second; what closes second is what the second closes after the first
abbrev pub together : PacketStep → PacketStep → SnapshotStep
together x y =
    record {
      next = y.next;
      first = option_or x.report y.report;
      second = option_and x.report y.report;
      one = x.work;
      two = y.work;
    }

-- a record at count d after the clock, with the type bytes of its two packets, 0 for one that it hasn't
unfoldable pub step_snapshot : Clock → Snapshot → ℕ → ℕ → ℕ → SnapshotStep
step_snapshot c s d one two =
    together (step_packet (cut_if (not (follows c d)) s) d one) (step_packet (step_packet (cut_if (not (follows c d)) s) d one).next d two)
