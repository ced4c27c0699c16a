use Rattle.std.proofs.Common.{◌<◌, take}
use Rattle.std.specs.List.{All}
use Rattle.psi_residue.specs.Numbers.{plain_modulus}
use Rattle.bin_poly.specs.Roots.{HasRoots}
use Rattle.bin_poly.proofs.roots.from_roots.Given as goal

abbrev pub invariant-loop-degree : goal.invariant-loop-degree
invariant-loop-degree l = record {
  product : HasRoots l.out (take l.degree l.roots);
  below : All (λ c. c < plain_modulus) l.out;
}
