use Rattle.std.proofs.Common.{◌≡◌, ◌<◌, ◌+◌, ◌*◌, ℕ, get_or}
use Rattle.query_codec.specs.Ciphertexts.{residue_in, AreBelow}
use Rattle.query_codec.proofs.ciphertexts.write_list.Given as goal

abbrev pub invariant-loop-i : goal.invariant-loop-i
invariant-loop-i l = record {
  read : (n : ℕ) → n < l.i → get_or l.out n 0 ≡ residue_in l.bytes (4096 * l.k + n);
  below : AreBelow l.bytes (4096 * l.k) (4096 * l.k + l.i);
}
