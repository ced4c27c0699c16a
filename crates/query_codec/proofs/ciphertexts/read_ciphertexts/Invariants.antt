use Rattle.std.proofs.Common.{◌≡◌, ◌*◌}
use Rattle.query_codec.specs.Ciphertexts.{AreBelow, ciphertexts_in}
use Rattle.query_codec.proofs.ciphertexts.read_ciphertexts.Given as goal

abbrev pub invariant-loop-c : goal.invariant-loop-c
invariant-loop-c l = record {
  read : l.cts.items ≡ ciphertexts_in l.bytes l.c;
  below : AreBelow l.bytes 0 (16384 * l.c);
}
