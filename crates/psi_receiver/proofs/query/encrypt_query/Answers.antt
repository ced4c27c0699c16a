use Rattle.std.proofs.Common.{◌≡◌, ◌*◌, length, ap, ◌∙◌}
use Rattle.std.proofs.lemmas.List.FromFn.{length-map-range_with_len}
use Rattle.std.proofs.lemmas.Result.{IfOk-weaker}
use Rattle.noise_ledger.specs.Verdicts.{parameters_of}
use Rattle.psi_receiver.specs.Queries.{row_values}
use Rattle.psi_receiver.proofs.Writes.{bytes-made}
use Rattle.psi_receiver.proofs.query.encrypt_query.Goals as goal

pub encrypt_powers-requires-clause-few : goal.encrypt_powers-requires-clause-few
encrypt_powers-requires-clause-few g c κs within =
    let size : length c.deref.result.now ≡ c.args.params.now.rows =
    ap length (c.deref.ensures.value ∙ c.in_ok-values.ensures) ∙ length-map-range_with_len (row_values c.args.placed.now) 0 c.args.params.now.rows in
    rw (size, c.from.ensures) c.requires.few_ciphertexts

pub returns : goal.returns
returns g c =
    let p = parameters_of c.args.params.now in
    let are = c.deref.ensures.value ∙ c.in_ok-values.ensures in
    let size : length c.deref.result.now ≡ p.rows = ap length are ∙ length-map-range_with_len (row_values c.args.placed.now) 0 p.rows in
    IfOk-weaker c.encrypt_powers.result _ _
    (λ pieces e.
    bytes-made (λ piece. piece.items) p c.args.seed.now c.args.placed.now c.deref.result.now c.from.result (length c.deref.result.now * c.from.result) pieces.items c.requires.ranges.some_members c.from.ensures are (λ i. size i * c.from.ensures i) e)
    c.encrypt_powers.ensures
