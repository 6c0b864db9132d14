-- The fields of a record that passes (01, "The record", "The packet"; 02, request 2).
-- Assumes nothing.
use Rattle.std.specs.Prelude.{cond, ℕ, List, ◌≡◌, eqb, Result, Ok, Err}
use Rattle.record.specs.Layout.{count, packet_bytes, day, millisecond, level, quality}
use Rattle.record.specs.Layout.{first_flag, second_flag, third_flag, frame_code, frame_type, second_code, subcom}
use Rattle.record.specs.Frame.{kind_of, second_burst}
use Rattle.record.specs.Signal.{level_of}
use Rattle.record.specs.Refusals.{numbered}
use Rattle.record.specs.Rules.{broken, refused_number}
use Rattle.record.specs.declared.Record.{Record}
use Rattle.record.specs.declared.signal.Reading.{Reading}
use Rattle.record.specs.declared.refusal.Refusal.{Refusal}

-- "Signal level and quality travel together as one reading"
abbrev pub reading_of : List ℕ → Reading
reading_of r = record { level = level_of (level r); quality = level_of (quality r) }

unfoldable pub record_of : List ℕ → Record
record_of r = record {
  count = count r;
  day = day r;
  millisecond = millisecond r;
  first_flag = first_flag r;
  second_flag = second_flag r;
  third_flag = third_flag r;
  frame_code = frame_code (packet_bytes r);
  frame_type = frame_type (packet_bytes r);
  kind = kind_of (packet_bytes r);
  second_code = second_burst (kind_of (packet_bytes r)) (second_code (packet_bytes r));
  subcom = subcom (packet_bytes r);
  reading = reading_of r;
}

-- the fields of a record that passes rules 2 to 11; else the rule's number and no fields
unfoldable pub contents_of : List ℕ → Result Record Refusal
contents_of r = cond (eqb (broken r) 0) (Ok (record_of r)) (Err (numbered (broken r)))

-- the contents of a record; and their number, which follows
pub record ContentsIs (r : List ℕ) (c : Result Record Refusal) : Type 0 where
  pub is : c ≡ contents_of r
  pub number : refused_number c ≡ broken r
