use Rattle.std.proofs.Common.{◌≡◌, ◌≤◌, ◌-◌, length}
use Rattle.std.specs.Io.KnownBytes.{Consumes}
use Rattle.psi_outside.proofs.reading.read_all.Given as goal

-- the bytes were read from the source, they are within the limit, and no read failed
abbrev pub invariant-loop-bytes : goal.invariant-loop-bytes
invariant-loop-bytes g l = record {
  read : Consumes (g.S.Source.told l.initial.source).left (g.S.Source.told l.source).left l.bytes.items;
  bound : length l.bytes.items ≤ l.limit;
  faults : (g.S.Source.told l.source).faults ≡ (g.S.Source.told l.initial.source).faults;
}

-- each turn takes a byte at least
abbrev pub decreases-loop-bytes : goal.decreases-loop-bytes
decreases-loop-bytes g l = l.limit - length l.bytes.items
