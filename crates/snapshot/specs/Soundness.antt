-- The snapshot's part of the state list (02, request 2), clause by clause.
-- Assumes nothing.
use Rattle.std.specs.Prelude.{◌-◌, ◌^◌, Bool, not, ◌&&◌, ◌||◌, eqb, ltb, leb}
use Rattle.prelude.specs.Marks.{highest}
use Rattle.bursts.specs.Bursts.{first_packet, packets}
use Rattle.clock.specs.Clock.{begun}
use Rattle.clock.specs.declared.Clock.{Clock}
use Rattle.snapshot.specs.declared.Snapshot.{Snapshot}

-- no mark past type 55, which would name no packet (docs/DECISIONS.md)
unfoldable pub packets_among : Snapshot → Bool
packets_among s = ltb s.held (2 ^ packets)

-- not "its highest not the last type"
unfoldable pub last_highest : Snapshot → Bool
last_highest s = eqb s.held 0 || (leb first_packet s.last_type && highest s.held (s.last_type - first_packet))

-- not "its first count above the last accepted"
unfoldable pub first_fits : Clock → Snapshot → Bool
first_fits c s = leb s.first c.last

-- not "not open with numbers not 0", of which the mark is one
unfoldable pub none_open : Snapshot → Bool
none_open s = not (eqb s.held 0) || (eqb s.first 0 && (eqb s.last_type 0 && not s.cut))

-- the clauses together, with "Until something is accepted, all is 0" (01): no packet is held, and so the other numbers are 0 too
unfoldable pub snapshot_sound : Clock → Snapshot → Bool
snapshot_sound c s = packets_among s && (last_highest s && (first_fits c s && (none_open s && begun c s.held)))
