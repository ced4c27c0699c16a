use Rattle.std.proofs.Common.{List, ℕ, ◌++◌, ap, ◌∙◌, arith}
use Rattle.query_codec.specs.Ciphertexts.{ciphertext_bytes}
use Rattle.query_codec.proofs.ReadBack.{written_none, written_more, each_more}
use Rattle.query_codec.proofs.ciphertexts.append_ciphertexts.Goals as goal

pub loop-ct-init : goal.loop-ct-init
loop-ct-init c = record { done = written_none c.args.text.now.items; each = λ k d lt. absurd (omega arith) }

pub loop-ct-preserved : goal.loop-ct-preserved
loop-ct-preserved c = record {
  done =
      c.in_ok-append_ciphertext.ensures.appended
      ∙ ap (λ (xs : List ℕ). xs ++ ciphertext_bytes c.ct-item.result) c.loop-ct.invariant.done
      ∙ written_more c.args.text.now.items c.args.cts.now c.loop-ct.ct-index c.ct-item.result c.loop-ct-test.true c.ct-item.is;
  each = each_more c.args.cts.now c.loop-ct.ct-index c.ct-item.result c.loop-ct-test.true c.ct-item.is c.loop-ct.invariant.each c.in_ok-append_ciphertext.ensures.whole;
}
