use Rattle.std.proofs.Common.{◌≡◌, ◌∙◌, ap, sym, arith}
use Rattle.psi_residue.specs.Ciphertexts.{list_at}
use Rattle.psi_residue.specs.declared.numbers.Modulus.{Modulus}
use Rattle.negacyclic.specs.Transforms.{polynomial_of}
use Rattle.bundle_cache.specs.Queries.{modulus_of_list}
use Rattle.bundle_cache.proofs.Cells.{transformed-none, transformed-more, transformed-all}
use Rattle.bundle_cache.proofs.powers.transform.Goals as goal

pub loop-list-init : goal.loop-list-init
loop-list-init c = record { whole = λ lt. absurd (omega arith); lists = transformed-none c.args.ct.now }

pub loop-list-preserved : goal.loop-list-preserved
loop-list-preserved c =
    let values : c.copy_from_slice.new.self ≡ list_at c.loop-list.ct c.loop-list.list = cc in
    let undone : polynomial_of (modulus_of_list c.loop-list.list) c.forward.new.a ≡ list_at c.loop-list.ct c.loop-list.list
    = ap (λ (m : Modulus). polynomial_of m c.forward.new.a) (sym c.list_modulus.ensures) ∙ c.forward.ensures.undone ∙ values in
    record {
      whole = λ lt. c.set.ensures.whole;
      lists =
          transformed-more c.args.ct.now c.loop-list.ct c.set.new.self c.loop-list.list c.forward.new.a (omega (arith, c.residues.ensures.whole.four)) c.set.ensures.set
          undone c.loop-list.invariant.lists;
    }

pub returns-clause-values : goal.returns-clause-values
returns-clause-values c =
    transformed-all c.args.ct.now c.loop-list.ct c.loop-list.list (omega arith) (c.loop-list.invariant.whole (omega arith)).four c.loop-list.invariant.lists

pub returns-clause-whole : goal.returns-clause-whole
returns-clause-whole c = c.loop-list.invariant.whole (omega arith)
