-- What the outside tells at one moment: the source and the files, and the sink.
use Rattle.std.specs.Prelude.{◌≡◌, ◌⊎◌, ℕ, List, [], take}
use Rattle.std.specs.Io.KnownBytes.{Appends}
use Rattle.psi_outside.specs.Causes.{Rose}
use Rattle.psi_outside.specs.Ends.{Ends, FilesTold, SinkTold, SourceTold, ends}
use Rattle.psi_outside.specs.Streams.{IsAllFlushed}

-- what is read from: the source and the files
pub record Given : Type 0 where
  pub source : SourceTold
  pub files : FilesTold

-- what is read from, and the sink that is written to
pub record World : Type 0 where
  pub given : Given
  pub sink : SinkTold

abbrev pub given : SourceTold → FilesTold → Given
given source files = record { source = source; files = files }

abbrev pub world : SourceTold → FilesTold → SinkTold → World
world source files sink = record { given = given source files; sink = sink }

-- the source and the sink of it
abbrev pub ends_of : World → Ends
ends_of w = ends w.given.source w.sink

-- a read failed, of the source or of a file
abbrev pub ReadFailed : Given → Given → Type 0
ReadFailed old new = Rose old.source.faults new.source.faults ⊎ Rose old.files.faults new.files.faults

-- no read failed, neither of the source nor of a file
pub record NoReadFailed (old new : Given) : Type 0 where
  pub source : new.source.faults ≡ old.source.faults
  pub file : new.files.faults ≡ old.files.faults

-- nothing was read
abbrev pub NothingRead : Given → Given → Type 0
NothingRead old new = new ≡ old

-- nothing reached the sink
abbrev pub IsUntouched : SinkTold → SinkTold → Type 0
IsUntouched old new = new ≡ old

-- a text stands behind what the sink held, and all of it is flushed
pub record IsTextWritten (text : List ℕ) (old new : SinkTold) : Type 0 where
  pub appended : Appends old.written new.written text
  pub flushed : IsAllFlushed new.written new.flushed
  pub no_write_failed : new.faults ≡ old.faults

-- all that the sink holds is flushed; or nothing was put behind what it held, and as much is flushed as before
abbrev pub IsFlushedSo : SinkTold → SinkTold → Type 0
IsFlushedSo old new =
    IsAllFlushed new.written new.flushed
    ⊎ (Appends old.written new.written [] × (new.flushed ≡ old.flushed))

-- a write or the flush failed, behind a front of the text
pub record IsTextCutOff (text : List ℕ) (old new : SinkTold) : Type 0 where
  pub front : (n : ℕ) × Appends old.written new.written (take n text)
  pub failed : Rose old.faults new.faults
