-- The refusals of a table, and their numbers.
use Rattle.std.specs.Prelude.{ℕ}
use Rattle.kinds.specs.Patterns.{pattern_number}
use Rattle.filters.specs.Refusals.{filter_number}
use Rattle.tables.specs.declared.fault.HeadFault.{HeadFault}
use Rattle.tables.specs.declared.fault.HeadFault.TheVariants.{Short, Kind, Length, Full}
use Rattle.tables.specs.declared.fault.RecordFault.{RecordFault}
use Rattle.tables.specs.declared.fault.RecordFault.TheVariants.{Filter, Pattern}
use Rattle.tables.specs.declared.fault.LoadFault.{LoadFault}
use Rattle.tables.specs.declared.fault.LoadFault.TheVariants.{Head, Record}
use Rattle.tables.specs.declared.fault.WriteFault.{WriteFault}
use Rattle.tables.specs.declared.fault.WriteFault.TheVariants.{Short as NoRoom}

-- the number of each refusal of a head
abbrev pub head_number : HeadFault → ℕ
head_number Short = 15
head_number Kind = 16
head_number Length = 17
head_number Full = 6

-- the number of each refusal of a record
abbrev pub record_number : RecordFault → ℕ
record_number (Filter e) = filter_number e
record_number (Pattern e) = pattern_number e

-- the number of each refusal of a table
abbrev pub table_number : LoadFault → ℕ
table_number (Head e) = head_number e
table_number (Record e) = record_number e.fault

-- the record that is refused, counted from 1; 0 for the head
abbrev pub refused_record : LoadFault → ℕ
refused_record (Head e) = 0
refused_record (Record e) = e.«record»

-- the number of each refusal of a buffer
abbrev pub write_number : WriteFault → ℕ
write_number NoRoom = 19
