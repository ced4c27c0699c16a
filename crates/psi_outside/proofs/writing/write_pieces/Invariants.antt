use Rattle.std.proofs.Common.{◌≡◌, ℕ, List, ◌++◌, length}
use Rattle.std.specs.Io.KnownBytes.{Appends}
use Rattle.psi_outside.proofs.writing.write_pieces.Given as goal

-- what is gone from the text was appended, no call failed, and nothing was flushed
abbrev pub invariant-loop-rest : goal.invariant-loop-rest
invariant-loop-rest g l = record {
  front : (done : List ℕ) × (l.initial.rest ≡ done ++ l.rest) × Appends (g.K.Sink.told l.initial.sink).written (g.K.Sink.told l.sink).written done;
  faults : (g.K.Sink.told l.sink).faults ≡ (g.K.Sink.told l.initial.sink).faults;
  flushed : (g.K.Sink.told l.sink).flushed ≡ (g.K.Sink.told l.initial.sink).flushed;
}

abbrev pub decreases-loop-rest : goal.decreases-loop-rest
decreases-loop-rest g l = length l.rest
