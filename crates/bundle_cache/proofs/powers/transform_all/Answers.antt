use Rattle.std.proofs.lemmas.List.{get_or_default}
use Rattle.std.proofs.Common.{[], arith}
use Rattle.bundle_cache.proofs.Cells.{transforms-none, transforms-more, transforms-all}
use Rattle.bundle_cache.proofs.powers.transform_all.Goals as goal

pub loop-c-init : goal.loop-c-init
loop-c-init c = transforms-none c.args.ciphertexts.now

pub loop-c-preserved : goal.loop-c-preserved
loop-c-preserved c = transforms-more c.args.ciphertexts.now c.loop-c.ciphertexts c.loop-c.c _ c.transform.new.ct (omega arith) (get_or_default c.loop-c.ciphertexts c.loop-c.c c.index-ciphertexts-c.result [] (omega arith)) c.transform.ensures.values c.loop-c.invariant

pub returns : goal.returns
returns c = transforms-all c.args.ciphertexts.now c.loop-c.ciphertexts (λ k lt. c.loop-c.invariant.done k (omega (arith, lt, c.loop-c.invariant.size))) c.loop-c.invariant.size
