use Rattle.psi_residue.specs.Numbers.{modulus_of}
use Rattle.negacyclic.proofs.Convolutions.{StartsProduct}
use Rattle.negacyclic.proofs.product.product_plain.Given as goal

abbrev pub invariant-loop-k : goal.invariant-loop-k
invariant-loop-k l = StartsProduct (modulus_of l.m) l.a l.b l.out l.k
