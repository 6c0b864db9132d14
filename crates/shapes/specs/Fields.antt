-- The fields of a record as C has them (include/lpmag.h, "structs").
-- Assumes nothing.
use Rattle.std.specs.Prelude.{ℕ}
use Rattle.record.specs.Frame.{kind_number}
use Rattle.record.specs.Signal.{bits_of}
use Rattle.record.specs.declared.Record.{Record}
use Rattle.record.specs.declared.signal.Level.{Level}
use Rattle.record.specs.declared.signal.Level.TheVariants.{Finite, NotFinite}
use Rattle.shapes.specs.declared.fields.CFields.{CFields}

-- 1 for a finite level, else 0
unfoldable pub finite_mark : Level → ℕ
finite_mark (Finite x) = 1
finite_mark (NotFinite b) = 0

abbrev pub fields_out : Record → CFields
fields_out f = record {
  count = f.count;
  millisecond = f.millisecond;
  level = bits_of f.reading.level;
  quality = bits_of f.reading.quality;
  day = f.day;
  subcom = f.subcom;
  first_flag = f.first_flag;
  second_flag = f.second_flag;
  third_flag = f.third_flag;
  frame_code = f.frame_code;
  frame_type = f.frame_type;
  kind = kind_number f.kind;
  level_finite = finite_mark f.reading.level;
  quality_finite = finite_mark f.reading.quality;
  second_code = f.second_code;
  spare8 = 0;
  spare16 = 0;
}
