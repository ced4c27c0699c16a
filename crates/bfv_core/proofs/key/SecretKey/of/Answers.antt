use Rattle.std.proofs.Common.{arith, ◌∙◌, List, ℤ, ap, sym, subst}
use Rattle.psi_residue.specs.declared.numbers.Modulus.TheVariants as moduli
use Rattle.psi_residue.specs.Numbers.{first_modulus, second_modulus}
use Rattle.psi_residue.specs.Residues.{residues_of}
use Rattle.negacyclic.specs.Transforms.{values_of}
use Rattle.bfv_core.specs.Encryptions.{IsKey}
use Rattle.bfv_core.proofs.Encrypted.{whole-written, key_from}
use Rattle.bfv_core.proofs.key.SecretKey.of.Goals as goal

pub returns-clause-a_key : goal.returns-clause-a_key
returns-clause-a_key c =
    let whole = whole-written c.key.new.out c.in_ok-coefficients.coefficients.items c.in_ok-coefficients.coefficients.len (omega (arith, c.key.auto.out, c.deref_mut.ensures.len, c.in_ok-coefficients.coefficients.ok.0)) in
    let drawn : IsKey c.key.new.out = record { size = omega (arith, c.key.auto.out, c.deref_mut.ensures.len, c.in_ok-coefficients.ensures.len); ternary = c.key.ensures.small } in
    subst IsKey (sym whole) drawn

pub invariant_of-result : goal.invariant_of-result
invariant_of-result c =
    let whole = whole-written c.key.new.out c.in_ok-coefficients.coefficients.items c.in_ok-coefficients.coefficients.len (omega (arith, c.key.auto.out, c.deref_mut.ensures.len, c.in_ok-coefficients.coefficients.ok.0)) in
    let drawn : IsKey c.key.new.out = record { size = omega (arith, c.key.auto.out, c.deref_mut.ensures.len, c.in_ok-coefficients.ensures.len); ternary = c.key.ensures.small } in
    record {
      key_is = subst IsKey (sym whole) drawn;
      first_is =
          whole-written c.write_values.new.out c.in_ok-first_values.first_values.items c.in_ok-first_values.first_values.len (omega (arith, c.write_values.auto.out, c.deref_mut-2.ensures.len, c.in_ok-first_values.first_values.ok.0))
          ∙ c.write_values.ensures
          ∙ ap (λ (xs : List ℤ). values_of moduli.Q1 (residues_of first_modulus xs)) c.deref.ensures.value;
      second_is =
          whole-written c.write_values-2.new.out c.in_ok-second_values.second_values.items c.in_ok-second_values.second_values.len (omega (arith, c.write_values-2.auto.out, c.deref_mut-3.ensures.len, c.in_ok-second_values.second_values.ok.0))
          ∙ c.write_values-2.ensures
          ∙ ap (λ (xs : List ℤ). values_of moduli.Q2 (residues_of second_modulus xs)) c.deref-2.ensures.value;
    }

pub returns-clause-exact : goal.returns-clause-exact
returns-clause-exact c = whole-written c.key.new.out c.in_ok-coefficients.coefficients.items c.in_ok-coefficients.coefficients.len (omega (arith, c.key.auto.out, c.deref_mut.ensures.len, c.in_ok-coefficients.coefficients.ok.0)) ∙ key_from c.args.seed.now c.key.new.out (omega (arith, c.key.auto.out, c.deref_mut.ensures.len, c.in_ok-coefficients.ensures.len)) c.key.ensures.value
