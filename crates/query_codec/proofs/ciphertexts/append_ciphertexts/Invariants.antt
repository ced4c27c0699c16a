use Rattle.std.proofs.Common.{◌≡◌, ◌++◌, take}
use Rattle.std.specs.List.{All}
use Rattle.psi_residue.specs.Ciphertexts.{IsCiphertext}
use Rattle.query_codec.specs.Ciphertexts.{ciphertexts_bytes}
use Rattle.query_codec.proofs.ciphertexts.append_ciphertexts.Given as goal

abbrev pub invariant-loop-ct : goal.invariant-loop-ct
invariant-loop-ct l = record {
  done : l.text.items ≡ l.fn.text.items ++ ciphertexts_bytes (take l.ct-index l.cts);
  each : All IsCiphertext (take l.ct-index l.cts);
}
