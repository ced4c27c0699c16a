use Rattle.std.proofs.Common.{◌≡◌, drop}
use Rattle.std.specs.Ordering.{nat_cmp}
use Rattle.std.specs.Cmp.Lexicographic.{slice_cmp}
use Rattle.std.specs.FinMap.{find}
use Rattle.psi_outside.specs.InMemory.{file_entries, file_map}
use Rattle.psi_outside.specs.Names.{file_at}
use Rattle.psi_outside.proofs.memory_files.find_file.Given as goal

-- no file passed so far has the name
abbrev pub invariant-loop-file : goal.invariant-loop-file
invariant-loop-file l =
    file_at (file_map (file_entries l.files)) l.name ≡ find (slice_cmp nat_cmp) l.name (file_entries (drop l.file-index l.files))
