use Rattle.std.proofs.Common.{◌+◌, ◌-◌, ◌%◌, get_or, pos}
use Rattle.psi_residue.specs.Numbers.{modulus_of}
use Rattle.psi_residue.specs.Ring.{product_at}
use Rattle.psi_residue.specs.Residues.{residue_of, residues_of}
use Rattle.psi_residue.proofs.Filling.{IsFilled}
use Rattle.bfv_core.proofs.encryption.hide.Given as goal

abbrev pub invariant-loop-i : goal.invariant-loop-i
invariant-loop-i l =
    IsFilled 0
    (λ k. (residue_of (modulus_of l.m) (get_or l.errors k (pos 0)) + (modulus_of l.m - product_at (modulus_of l.m) 4096 l.mask (residues_of (modulus_of l.m) l.key) k)) % modulus_of l.m)
    (product_at (modulus_of l.m) 4096 l.mask (residues_of (modulus_of l.m) l.key))
    l.out l.i
