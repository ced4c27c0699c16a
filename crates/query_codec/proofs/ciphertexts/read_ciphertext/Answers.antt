use Rattle.std.proofs.Common.{arith, ◌+◌, ◌*◌, ◌∙◌}
use Rattle.query_codec.proofs.Residues.{read-polynomial, read-lists}
use Rattle.query_codec.proofs.ciphertexts.read_ciphertext.Goals as goal

pub of-requires-clause-c0_first : goal.of-requires-clause-c0_first
of-requires-clause-c0_first c = read-polynomial c.args.bytes.now c.args.c 0 (4 * c.args.c) _ (omega arith) (omega arith) c.in_ok-c0_first.ensures.read c.in_ok-c0_first.ensures.below

pub of-requires-clause-c0_second : goal.of-requires-clause-c0_second
of-requires-clause-c0_second c = read-polynomial c.args.bytes.now c.args.c 1 (4 * c.args.c + 1) _ (omega arith) (omega arith) c.in_ok-c0_second.ensures.read c.in_ok-c0_second.ensures.below

pub of-requires-clause-c1_first : goal.of-requires-clause-c1_first
of-requires-clause-c1_first c = read-polynomial c.args.bytes.now c.args.c 2 (4 * c.args.c + 2) _ (omega arith) (omega arith) c.in_ok-c1_first.ensures.read c.in_ok-c1_first.ensures.below

pub of-requires-clause-c1_second : goal.of-requires-clause-c1_second
of-requires-clause-c1_second c = read-polynomial c.args.bytes.now c.args.c 3 (4 * c.args.c + 3) _ (omega arith) (omega arith) c.in_ok-c1_second.ensures.read c.in_ok-c1_second.ensures.below

pub returns-clause-read : goal.returns-clause-read
returns-clause-read c =
    c.of.ensures.lists
    ∙ read-lists c.args.bytes.now c.args.c _ _ _ _ c.in_ok-c0_first.ensures.read c.in_ok-c0_second.ensures.read c.in_ok-c1_first.ensures.read c.in_ok-c1_second.ensures.read
