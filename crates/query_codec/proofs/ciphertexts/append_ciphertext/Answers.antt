use Rattle.std.proofs.Common.{List, ℕ, ◌++◌, ap, ◌∙◌, arith}
use Rattle.std.specs.List.{flat_map}
use Rattle.std.proofs.lemmas.List.{take_all}
use Rattle.query_codec.specs.Ciphertexts.{residue_bytes, ciphertext_bytes}
use Rattle.query_codec.proofs.ciphertexts.append_ciphertext.Goals as goal

pub returns-clause-appended : goal.returns-clause-appended
unfolding ciphertext_bytes
returns-clause-appended c =
    let four = (c.loop-list.invariant.whole (omega arith)).four in
    c.loop-list.invariant.done
    ∙ ap (λ (ls : List (List ℕ)). c.args.text.now.items ++ flat_map residue_bytes ls) (take_all c.loop-list.list c.args.ct.now (omega (arith, four)))
