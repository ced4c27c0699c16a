use Rattle.std.proofs.Common.{List, ap, ◌∙◌}
use Rattle.std.specs.List.{flat_map}
use Rattle.noise_ledger.specs.Verdicts.{parameters_of}
use Rattle.query_codec.specs.Ciphertexts.{ciphertexts_bytes}
use Rattle.psi_receiver.specs.declared.placement.Placed.{Placed}
use Rattle.psi_receiver.specs.Queries.{encrypted_powers}
use Rattle.psi_receiver.proofs.Writes.{pieces-body}
use Rattle.psi_receiver.proofs.asking.ask_tags.Goals as goal

pub returns-clause-query : goal.returns-clause-query
returns-clause-query g c =
    let p = parameters_of c.args.params.now in
    let placed = c.in_ok-placed.placed.items in
    let told =
    ap (flat_map (λ piece. piece.items)) c.deref-2.ensures.value ∙ c.in_ok-pieces.ensures ∙ ap (λ (xs : List Placed). ciphertexts_bytes (encrypted_powers p c.args.seed.now xs)) c.deref.ensures.value in (
      placed,
      c.in_ok-placed.ensures.placed,
      pieces-body p c.args.seed.now placed (flat_map (λ piece. piece.items) c.deref-2.result.now) c.in_ok-join_query.field-0.items told c.in_ok-join_query.ensures.joined,
    )
