-- What contracts see of the objects in memory.
use Rattle.std.specs.Prelude.{ℕ, Some, List, [], ◌∷◌, map, string_bytes, String, Vec, ⊤, IsFalse, bytes_eq}
use Rattle.std.specs.List.{list_any}
use Rattle.std.specs.FinMap.{from_entries}
use Rattle.psi_outside.specs.Plans.{Plan}
use Rattle.psi_outside.specs.Names.{FileMap}
use Rattle.psi_outside.specs.Ends.{FilesTold, SinkTold, SourceTold}

-- a source: the bytes that are left, the most that one read gives, and which reads fail
pub record SourceState : Type 0 where
  pub left : List ℕ
  pub piece : ℕ
  pub plan : Plan

-- what it tells
abbrev pub source_told : SourceState → SourceTold
source_told s = record { left = Some s.left; faults = s.plan.faults }

-- a sink: the bytes written, how many of these were flushed, how many it can hold, and which calls fail
pub record SinkState : Type 0 where
  pub written : List ℕ
  pub flushed : ℕ
  pub room : ℕ
  pub plan : Plan

-- what it tells
abbrev pub sink_told : SinkState → SinkTold
sink_told s = record { written = Some s.written; flushed = Some s.flushed; faults = s.plan.faults }

-- files: each one's name and bytes, and which reads fail
pub record FilesState : Type 0 where
  pub entries : List (List ℕ × List ℕ)
  pub plan : Plan

-- each file's name and bytes
abbrev pub file_entries : {A B : Type 0} → List (String A × Vec ℕ B) → List (List ℕ × List ℕ)
file_entries files = map (λ file. (string_bytes file.0, file.1.items)) files

-- the files by their names
abbrev pub file_map : List (List ℕ × List ℕ) → FileMap
file_map entries = from_entries entries

-- what they tell
abbrev pub files_told : FilesState → FilesTold
files_told s = record { files = Some (file_map s.entries); faults = s.plan.faults }

-- no name stands twice
abbrev pub DifferInName : List (List ℕ × List ℕ) → Type 0
DifferInName [] = ⊤
DifferInName (file ∷ files) = IsFalse (list_any (λ other. bytes_eq file.0 other.0) files) × DifferInName files
