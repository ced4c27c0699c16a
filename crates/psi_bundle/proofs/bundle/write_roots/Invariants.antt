use Rattle.std.proofs.Common.{◌≡◌, take, drop}
use Rattle.psi_bundle.specs.Bins.{roots_of}
use Rattle.psi_bundle.proofs.bundle.write_roots.Given as goal

abbrev pub invariant-loop-i : goal.invariant-loop-i
invariant-loop-i l = record {
  values : take l.i l.out ≡ roots_of (take l.i l.members) l.part;
  rest : drop l.i l.out ≡ drop l.i l.fn.out;
}
