use Rattle.std.proofs.Common.{◌≡◌, ◌++◌, ◌<◌, take}
use Rattle.std.specs.List.{flat_map}
use Rattle.psi_residue.specs.Ciphertexts.{IsCiphertext}
use Rattle.query_codec.specs.Ciphertexts.{residue_bytes}
use Rattle.query_codec.proofs.ciphertexts.append_ciphertext.Given as goal

abbrev pub invariant-loop-list : goal.invariant-loop-list
invariant-loop-list l = record {
  done : l.text.items ≡ l.fn.text.items ++ flat_map residue_bytes (take l.list l.ct);
  whole : 0 < l.list → IsCiphertext l.ct;
}
