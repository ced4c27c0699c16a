use Rattle.std.proofs.Common.{arith}
use Rattle.query_codec.proofs.Residues.{list_in-from}
use Rattle.query_codec.proofs.ciphertexts.write_list.Goals as goal

pub returns-clause-read : goal.returns-clause-read
returns-clause-read c = list_in-from c.args.bytes.now c.args.k c.loop-i.out (omega arith) (λ i lt. c.loop-i.invariant.read i (omega arith))
