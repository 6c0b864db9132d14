-- What a call closed, and the reports, as C has them (include/lpmag.h, "structs").
-- Assumes nothing.
use Rattle.std.specs.Prelude.{ℕ, Option, Some, None, is_some, unwrap_or}
use Rattle.accumulation.specs.declared.AccumulationReport.{AccumulationReport}
use Rattle.accumulation.specs.declared.GapDecision.{GapDecision}
use Rattle.accumulation.specs.declared.GapDecision.TheVariants.{Opens, Joins, Neither}
use Rattle.major.specs.Major.{no_major}
use Rattle.snapshot.specs.declared.SnapshotReport.{SnapshotReport}
use Rattle.state.specs.declared.closed.Closed.{Closed}
use Rattle.state.specs.declared.deciding.Taken.{Taken}
use Rattle.shapes.specs.Frames.{flag, major_out}
use Rattle.shapes.specs.Fields.{fields_out}
use Rattle.shapes.specs.declared.closed.CClosedSnapshot.{CClosedSnapshot}
use Rattle.shapes.specs.declared.closed.CClosed.{CClosed}
use Rattle.shapes.specs.declared.closed.CReport.{CReport}
use Rattle.shapes.specs.declared.closed.CFed.{CFed}

-- LPMAG_OPENS, LPMAG_JOINS, LPMAG_NEITHER
unfoldable pub gap_number : GapDecision → ℕ
gap_number Opens = 0
gap_number Joins = 1
gap_number Neither = 2

-- of a snapshot that closed its first count and its packets; all 0 where none did
abbrev pub closed_snapshot_out : Option SnapshotReport → CClosedSnapshot
closed_snapshot_out None = record { first = 0; held = 0; closed = 0; spare8 = 0; spare16 = 0 }
closed_snapshot_out (Some s) = record { first = s.first; held = s.held; closed = 1; spare8 = 0; spare16 = 0 }

-- of an accumulation likewise
abbrev pub closed_first : Option AccumulationReport → ℕ
closed_first None = 0
closed_first (Some a) = a.first

abbrev pub closed_held : Option AccumulationReport → ℕ
closed_held None = 0
closed_held (Some a) = a.held

-- what closed first, and what closed second (02, request 2): each in its own place
abbrev pub closed_out : Closed → CClosed
closed_out c = record {
  major = major_out (unwrap_or c.major no_major);
  accumulation_first = closed_first c.accumulation;
  accumulation_held = closed_held c.accumulation;
  major_closed = flag (is_some c.major);
  accumulation_closed = flag (is_some c.accumulation);
  spare16 = 0;
  spare32 = 0;
  first_snapshot = closed_snapshot_out c.first_snapshot;
  second_snapshot = closed_snapshot_out c.second_snapshot;
}

abbrev pub report_out : Taken → Closed → CReport
report_out t c = record { fields = fields_out t.fields; gap = gap_number t.gap; spare8 = 0; spare16 = 0; spare32 = 0; closed = closed_out c }

abbrev pub fed_out : ℕ → ℕ → Closed → CFed
fed_out taken answer c = record { taken = taken; answer = answer; spare8 = 0; spare16 = 0; spare32 = 0; closed = closed_out c }
