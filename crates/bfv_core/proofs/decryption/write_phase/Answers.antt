use Rattle.std.proofs.Common.{List, ℕ, subst, sym}
use Rattle.psi_residue.specs.Numbers.{modulus_of}
use Rattle.psi_residue.specs.Polynomials.{IsPolynomial}
use Rattle.psi_residue.specs.Residues.{residues_of}
use Rattle.psi_residue.proofs.Moduli.{modulus-positive}
use Rattle.bfv_core.proofs.Opening.{phase_from}
use Rattle.negacyclic.proofs.TransformLaws.{IsPolynomial-values_of}
use Rattle.bfv_core.proofs.Scaling.{residues_of-polynomial}
use Rattle.bfv_core.proofs.decryption.write_phase.Goals as goal

pub returns-clause-phase : goal.returns-clause-phase
returns-clause-phase c =
    let m : ℕ = modulus_of c.args.m in
    phase_from m c.args.key.now c.args.key.now c.args.c0.now c.args.c1.now (residues_of m c.args.key.now) c.times_values.new.out c.add_to.new.out
    c.add_to.ensures.sum
    (c.times_values.ensures.product (residues_of m c.args.key.now) (residues_of-polynomial m c.args.key.now (modulus-positive c.args.m) c.values.ensures.a_key.size) c.values.ensures.values)
    (λ i. residues_of m c.args.key.now) (λ i. c.args.key.now)

pub times_values-requires-clause-second : goal.times_values-requires-clause-second
times_values-requires-clause-second c =
    subst (λ (xs : List ℕ). IsPolynomial (modulus_of c.args.m) xs) (sym c.values.ensures.values) (IsPolynomial-values_of c.args.m (residues_of (modulus_of c.args.m) c.args.key.now))
