use Rattle.std.proofs.Common.{◌≡◌, ◌∙◌, ℕ, List, length, sym, ap}
use Rattle.noise_ledger.specs.Verdicts.{parameters_of}
use Rattle.psi_bundle.specs.Bodies.{bundle_counts, evaluated_rows}
use Rattle.query_codec.specs.Replies.{reply_planes}
use Rattle.sender_core.specs.Kept.{rows_of}
use Rattle.query_pool.proofs.Evaluated.{body-of, length-evaluated}
use Rattle.query_pool.proofs.evaluation.evaluate.Goals as goal

pub write_reply-requires-clause-planes : goal.write_reply-requires-clause-planes
write_reply-requires-clause-planes g c =
    let p = parameters_of c.args.params.now in
    let rows = rows_of c.args.snapshot.now.rows in
    let counts : c.deref.result.now ≡ bundle_counts rows = c.deref.ensures.value ∙ c.in_ok-counts.ensures in
    ap (λ (cts : List (List (List ℕ))). length cts) (c.deref-2.ensures.value ∙ c.in_ok-cts.ensures.evaluated) ∙ length-evaluated p c.of.result.query rows ∙ ap (reply_planes p) (sym counts)

pub returns-clause-body : goal.returns-clause-body
returns-clause-body g c =
    let p = parameters_of c.args.params.now in
    let rows = rows_of c.args.snapshot.now.rows in
    let counts : c.deref.result.now ≡ bundle_counts rows = c.deref.ensures.value ∙ c.in_ok-counts.ensures in
    let cts : c.deref-2.result.now ≡ evaluated_rows p rows c.args.query.items =
    c.deref-2.ensures.value ∙ c.in_ok-cts.ensures.evaluated ∙ ap (λ (query : List (List (List ℕ))). evaluated_rows p rows query) c.of.ensures.query in
    c.of-2.ensures ∙ c.in_ok-write_reply.ensures.written ∙ body-of p rows c.args.query.items c.deref-2.result.now c.deref.result.now counts cts
