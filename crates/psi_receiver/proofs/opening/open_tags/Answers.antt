use Rattle.std.proofs.Common.{◌≡◌, ◌<◌, ◌*◌, ℕ, List, length, ap, subst, sym, ◌∙◌, arith}
use Rattle.std.specs.List.{All, sum}
use Rattle.std.proofs.lemmas.List.{length-map}
use Rattle.noise_ledger.specs.Verdicts.{parameters_of}
use Rattle.psi_bundle.specs.Planes.{planes_of_bundle}
use Rattle.query_codec.specs.Replies.{reply_ciphertexts}
use Rattle.psi_receiver.specs.declared.placement.Placed.{Placed}
use Rattle.psi_receiver.specs.Openings.{opened_slots}
use Rattle.psi_receiver.proofs.Opened.{length-reply_counts, length-reply_ciphertexts}
use Rattle.psi_receiver.proofs.opening.open_tags.Goals as goal

pub planes-number-requires-clause-rows : goal.planes-number-requires-clause-rows
planes-number-requires-clause-rows g c =
    let many : length c.items.result.now ≡ c.args.params.now.rows = ap length (c.items.ensures ∙ c.in_ok-counts.ensures.counts) ∙ length-reply_counts (parameters_of c.args.params.now) c.args.reply.now in
    omega (arith, many, c.requires.passed.ranges.few_rows)

pub open_placed-requires-clause-within : goal.open_placed-requires-clause-within
open_placed-requires-clause-within g c _ _ =
    let many : length c.items-in-Ok.result.now ≡ c.args.params.now.rows = ap length (c.items-in-Ok.ensures ∙ c.in_ok-counts.ensures.counts) ∙ length-reply_counts (parameters_of c.args.params.now) c.args.reply.now in
    subst (λ (xs : List Placed). All (λ x. x.position < 819 * length c.items-in-Ok.result.now) xs) (sym c.deref-in-Ok.ensures.value)
    (λ k d lt. let h = c.in_ok-placed.ensures.within k d lt in omega (arith, many, h))

pub open_placed-requires-clause-whole : goal.open_placed-requires-clause-whole
open_placed-requires-clause-whole g c _ _ =
    let p = parameters_of c.args.params.now in
    ap length (c.deref.ensures.value ∙ c.in-Ok.ensures.opened)
    ∙ length-map (reply_ciphertexts p c.args.reply.now) (opened_slots c.in_ok-key.key)
    ∙ length-reply_ciphertexts p c.args.reply.now
    ∙ ap (λ (counts : List ℕ). planes_of_bundle p * sum counts) (sym (c.items-in-Ok.ensures ∙ c.in_ok-counts.ensures.counts))
