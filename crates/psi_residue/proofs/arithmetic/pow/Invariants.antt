use Rattle.std.proofs.Common.{◌≡◌, ◌*◌, ◌%◌, ◌^◌, ◌<◌}
use Rattle.psi_residue.specs.Numbers.{modulus_of}
use Rattle.psi_residue.proofs.arithmetic.pow.Given as goal

abbrev pub invariant-loop-rest : goal.invariant-loop-rest
invariant-loop-rest l = record {
  so_far : (l.power * l.square ^ l.rest) % modulus_of l.m ≡ l.a ^ l.e % modulus_of l.m;
  power_below : l.power < modulus_of l.m;
  square_below : l.square < modulus_of l.m;
}

abbrev pub decreases-loop-rest : goal.decreases-loop-rest
decreases-loop-rest l = l.rest
