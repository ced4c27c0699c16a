use Rattle.std.proofs.Common.{[], ◌∷◌, ◌≡◌, true, is_ok, ◌+◌, ◌*◌, ◌++◌, sym, ◌∙◌, arith}
use Rattle.std.proofs.lemmas.Grind.{common_steps}
use Rattle.std.proofs.lemmas.Result.{err_from_is_err_and}
use Rattle.query_codec.proofs.Residues.{AreBelow-joined, ciphertexts_in-none, ciphertexts_in-more, fault_within}
use Rattle.query_codec.proofs.ciphertexts.read_ciphertexts.Goals as goal

pub loop-c-init : goal.loop-c-init
loop-c-init c = record {
  read = c.in_ok-cts.ensures.items ∙ ciphertexts_in-none c.args.bytes.now;
  below = λ i low high. absurd (omega arith);
}

pub returns-in_err-ct-clause-fault : goal.returns-in_err-ct-clause-fault
returns-in_err-ct-clause-fault c =
    let p = err_from_is_err_and c.from_residual-in_err-ct.result c.from_residual-in_err-ct.ensures.1 in
    rw (p.1, p.2) (fault_within c.args.bytes.now c.args.count c.loop-c.c c.in_err-ct.field-0.0 c.loop-c-test.true c.loop-c.invariant.below c.in_err-ct.ensures.fault)

pub loop-c-preserved : goal.loop-c-preserved
loop-c-preserved c =
    let ok : is_ok c.push.result ≡ true = grind (arith, common_steps) in
    let pushed = rw ok at c.push.ensures.items in
    record {
      read =
          pushed
          ∙ (λ i. c.loop-c.invariant.read i ++ c.in_ok-ct.ensures.read i ∷ [])
          ∙ sym (ciphertexts_in-more c.args.bytes.now c.loop-c.c);
      below = AreBelow-joined c.args.bytes.now 0 (16384 * c.loop-c.c) (16384 * (c.loop-c.c + 1)) c.loop-c.invariant.below c.in_ok-ct.ensures.below;
    }
