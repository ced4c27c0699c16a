use Rattle.std.proofs.Common.{arith, []}
use Rattle.psi_residue.specs.Ciphertexts.{list_at}
use Rattle.bfv_core.specs.EncryptedLists.{with_product, list_with_product}
use Rattle.psi_residue.proofs.Filling.{IsFilled-all}
use Rattle.bfv_core.proofs.FourLists.{product-more}
use Rattle.bfv_core.proofs.accumulator.Accumulator.add_product.Goals as goal

pub loop-list-preserved : goal.loop-list-preserved
loop-list-preserved c = record {
  whole = c.add_list.ensures.whole;
  filled =
      product-more c.args.self.now c.loop-list.self-inside.sum c.add_list.new.sum c.args.ct.now c.args.p.now c.write_wide.new.out c.residues.result.now c.loop-list.list
      (omega (arith, c.loop-list.invariant.whole.four)) c.add_list.ensures.sum c.write_wide.ensures c.residues.ensures.residues c.loop-list.invariant.filled;
}

pub returns : goal.returns
unfolding with_product
returns c =
    IsFilled-all [] (list_with_product c.args.self.now c.args.p.now c.args.ct.now) (list_at c.args.self.now) c.loop-list.self-inside.sum 4 c.loop-list.list
    c.loop-list.invariant.whole.four (omega arith) c.loop-list.invariant.filled
