use Rattle.std.proofs.Common.{◌≡◌, ◌%◌, ◌∙◌, ℕ, List, Bool, ap, sym, subst, arith, replicate, lt-ltb, le-ltb}
use Rattle.psi_residue.specs.Numbers.{modulus_of, scale}
use Rattle.psi_residue.specs.Polynomials.{IsPolynomial}
use Rattle.psi_residue.proofs.Polynomials.{IsPolynomial-constant}
use Rattle.psi_residue.proofs.Moduli.{modulus-positive}
use Rattle.bundle_cache.specs.Queries.{scaled_values}
use Rattle.bundle_cache.proofs.Cells.{constant-scaled, nothing-scaled}
use Rattle.bundle_cache.proofs.evaluation.write_constant.Goals as goal

pub mul_acc-requires-clause-first : goal.mul_acc-requires-clause-first
mul_acc-requires-clause-first c =
    let positive = modulus-positive c.args.m in
    IsPolynomial-constant (modulus_of c.args.m) _ (omega (arith, c.value.ensures, positive))

pub mul_acc-requires-clause-sum : goal.mul_acc-requires-clause-sum
mul_acc-requires-clause-sum c =
    let zeros : c.copy_from_slice.new.self ≡ replicate 4096 0 = cc in
    subst (λ (xs : List ℕ). IsPolynomial (modulus_of c.args.m) xs) (sym zeros) (IsPolynomial-constant (modulus_of c.args.m) 0 (modulus-positive c.args.m))

pub returns-then-list-lt2-clause-scaled : goal.returns-then-list-lt2-clause-scaled
returns-then-list-lt2-clause-scaled c =
    let zeros : c.copy_from_slice.new.self ≡ replicate 4096 0 = cc in
    c.mul_acc.ensures.sums
    ∙ constant-scaled (modulus_of c.args.m) _ c.copy_from_slice.new.self c.args.constant.now zeros (ap (λ (u : ℕ). scale % u) c.value.ensures)
    ∙ ap (λ (b : Bool). scaled_values (modulus_of c.args.m) b c.args.constant.now) (sym (lt-ltb c.args.list 2 c.if-list-lt2.true))

pub returns-else-list-lt2-clause-scaled : goal.returns-else-list-lt2-clause-scaled
returns-else-list-lt2-clause-scaled c =
    let zeros : c.copy_from_slice.new.self ≡ replicate 4096 0 = cc in
    nothing-scaled (modulus_of c.args.m) c.copy_from_slice.new.self c.args.constant.now zeros
    ∙ ap (λ (b : Bool). scaled_values (modulus_of c.args.m) b c.args.constant.now) (sym (le-ltb c.args.list 2 (omega (arith, c.if-list-lt2.false))))

pub returns-else-list-lt2-clause-reduced : goal.returns-else-list-lt2-clause-reduced
returns-else-list-lt2-clause-reduced c =
    let zeros : c.copy_from_slice.new.self ≡ replicate 4096 0 = cc in
    subst (λ (xs : List ℕ). IsPolynomial (modulus_of c.args.m) xs) (sym zeros) (IsPolynomial-constant (modulus_of c.args.m) 0 (modulus-positive c.args.m))
