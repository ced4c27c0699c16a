use Rattle.std.proofs.Common.{◌≡◌, ◌++◌, take}
use Rattle.query_codec.specs.Ciphertexts.{residue_bytes}
use Rattle.query_codec.proofs.ciphertexts.append_residues.Given as goal

abbrev pub invariant-loop-residue : goal.invariant-loop-residue
invariant-loop-residue l = l.text.items ≡ l.fn.text.items ++ residue_bytes (take l.residue-index l.residues)
