-- What a clause reads of the adapters over std.
use Rattle.std.specs.Prelude.{ℕ}
use Rattle.psi_outside.specs.declared.reader_source.ReaderSource.{ReaderSource}
use Rattle.psi_outside.specs.declared.disk_files.DiskFiles.{DiskFiles}
use Rattle.psi_outside.specs.declared.writer_sink.WriterSink.{WriterSink}

-- the reader below
abbrev pub source_reader : {R : Type 0} → ReaderSource R → R
source_reader source = source.reader

-- how many reads have failed
abbrev pub reader_faults : {R : Type 0} → ReaderSource R → ℕ
reader_faults source = source.faults

-- the writer below
abbrev pub sink_writer : {W : Type 0} → WriterSink W → W
sink_writer sink = sink.writer

-- how many writes and flushes have failed
abbrev pub writer_faults : {W : Type 0} → WriterSink W → ℕ
writer_faults sink = sink.faults

-- how many reads of files have failed
abbrev pub disk_faults : {R : Type 0} → DiskFiles R → ℕ
disk_faults disk = disk.faults
