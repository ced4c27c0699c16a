use Rattle.std.proofs.Common.{◌≡◌, ℕ, ◌*◌, ◌/◌, ◌%◌, ◌+◌, List, [], get_or, length}
use Rattle.std.specs.List.{range_with_len}
use Rattle.std.specs.Result.{IfOk}
use Rattle.std.proofs.lemmas.Result.{IfOk-weaker}
use Rattle.psi_residue.specs.Slots.{packed_list}
use Rattle.bfv_core.specs.EncryptedLists.{encrypted}
use Rattle.query_codec.specs.Ciphertexts.{ciphertext_bytes}
use Rattle.psi_receiver.specs.Queries.{powers_of}
use Rattle.psi_receiver.proofs.Worked.{numbers-zip}
use Rattle.psi_receiver.proofs.Writes.{all-shown}
use Rattle.psi_receiver.proofs.query.encrypt_powers.Goals as goal

pub returns : goal.returns
returns g c =
    let n = length c.args.values.now * c.args.capacity in
    let made : ℕ → List ℕ = λ i. ciphertext_bytes (encrypted c.args.seed.now i (packed_list (powers_of (get_or c.args.values.now (i / c.args.capacity) []) (i % c.args.capacity + 1)))) in
    let each = numbers-zip (λ i r. IfOk r (λ bytes. bytes.items ≡ made i)) n c.in_ok-pieces.pieces.items c.in_ok-pieces.ensures.len (λ i d lt. (c.in_ok-pieces.ensures.each i d lt).1.met) in
    IfOk-weaker c.values_of.result _ _ (λ pieces e. all-shown made (λ piece. piece.items) (range_with_len 0 n) c.in_ok-pieces.pieces.items pieces.items each e) c.values_of.ensures
