-- The line reader: "keeps the file's bytes and its place".
-- Assumes nothing.
use Rattle.std.specs.Prelude.{ℕ, List}
use Rattle.std.specs.Borrow.{Bor}
use Rattle.sm160_text.specs.Line.{read_record, read_device}
use Rattle.sm160_text.specs.declared.LineReader.{LineReader}
use Rattle.sm160_text.specs.declared.ArchiveRecord.{ArchiveRecord}
use Rattle.sm160_text.specs.declared.DeviceRecord.{DeviceRecord}
use Rattle.sm160_text.specs.declared.LineRead.{LineRead}

abbrev pub reader_at : Bor (List ℕ) → ℕ → LineReader
reader_at bytes place = record { bytes = bytes; place = place }

-- what stands at its place
abbrev pub record_at : LineReader → LineRead ArchiveRecord
record_at reader = read_record reader.bytes.now reader.place

abbrev pub device_at : LineReader → LineRead DeviceRecord
device_at reader = read_device reader.bytes.now reader.place
