use Rattle.std.proofs.Common.{arith, rules, ℕ, ℤ, FitsSigned, w8, ◌+◌, ◌-◌, ◌%◌, ◌<◌, ◌≡◌, ◌∙◌, ap, get_or, length, pos, subst, sym, List}
use Rattle.std.proofs.lemmas.Int.{to_z-of_z}
use Rattle.psi_residue.specs.Numbers.{modulus_of}
use Rattle.psi_residue.specs.Polynomials.{IsPolynomial}
use Rattle.psi_residue.specs.Ring.{product_at}
use Rattle.psi_residue.specs.Residues.{residue_of, residues_of}
use Rattle.psi_residue.proofs.Filling.{IsFilled-more}
use Rattle.psi_residue.proofs.Moduli.{modulus-positive}
use Rattle.negacyclic.proofs.Products.{product_at-below}
use Rattle.negacyclic.proofs.TransformLaws.{IsPolynomial-values_of}
use Rattle.bfv_core.proofs.Scaling.{residues_of-polynomial, key_product-none, hidden_from}
use Rattle.bfv_core.proofs.encryption.hide.Goals as goal

pub loop-i-init : goal.loop-i-init
loop-i-init c =
    let m : ℕ = modulus_of c.args.m in
    key_product-none m c.args.key.now c.args.mask.now c.times_values.new.out _
    (c.times_values.ensures.product (residues_of m c.args.key.now) (residues_of-polynomial m c.args.key.now (modulus-positive c.args.m) c.values.ensures.a_key.size) c.values.ensures.values)
    c.times_values.ensures.reduced.size

pub masked_error-requires : goal.masked_error-requires
masked_error-requires c =
    let within : c.loop-i.i < length c.loop-i.out = omega arith in
    let old : get_or c.loop-i.out c.loop-i.i 0 ≡ product_at (modulus_of c.args.m) 4096 c.args.mask.now (residues_of (modulus_of c.args.m) c.args.key.now) c.loop-i.i = c.loop-i.invariant.rest c.loop-i.i (omega arith) within in
    subst (λ (x : ℕ). x < modulus_of c.args.m) (sym old) (product_at-below (modulus_of c.args.m) 4096 c.args.mask.now (residues_of (modulus_of c.args.m) c.args.key.now) c.loop-i.i (modulus-positive c.args.m))

pub loop-i-preserved : goal.loop-i-preserved
loop-i-preserved c =
    let within : c.loop-i.i < length c.loop-i.out = omega arith in
    let m : ℕ = modulus_of c.args.m in
    let error : ℤ = get_or c.args.errors.now c.loop-i.i (pos 0) in
    let fits : FitsSigned w8 error = search rules in
    IsFilled-more 0 _ _ c.loop-i.out c.loop-i.i c.masked_error.result within
    (c.masked_error.ensures.difference
    ∙ ap (λ (e : ℤ). (residue_of m e + (m - get_or c.loop-i.out c.loop-i.i 0)) % m) (to_z-of_z w8 error fits)
    ∙ ap (λ (p : ℕ). (residue_of m error + (m - p)) % m) (c.loop-i.invariant.rest c.loop-i.i (omega arith) within))
    c.loop-i.invariant

pub returns-clause-hidden : goal.returns-clause-hidden
returns-clause-hidden c =
    c.add_scaled_to.ensures.sum
    ∙ hidden_from (modulus_of c.args.m) c.args.mask.now c.args.key.now (λ k. get_or c.args.errors.now k (pos 0)) c.args.plain.now c.loop-i.out
    (λ k lt. c.loop-i.invariant.done k (omega (arith, c.requires.as_many)))

pub times_values-requires-clause-second : goal.times_values-requires-clause-second
times_values-requires-clause-second c =
    subst (λ (xs : List ℕ). IsPolynomial (modulus_of c.args.m) xs) (sym c.values.ensures.values) (IsPolynomial-values_of c.args.m (residues_of (modulus_of c.args.m) c.args.key.now))
