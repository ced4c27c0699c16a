use Rattle.std.proofs.Common.{◌≡◌, ◌∙◌}
use Rattle.std.proofs.lemmas.Result.{err_from_is_err_and}
use Rattle.noise_ledger.specs.Verdicts.{parameters_of}
use Rattle.query_codec.specs.Replies.{IsReply, reply_planes, reply_head, reply_counts, reply_ciphertexts}
use Rattle.query_codec.proofs.QueryBodies.{AreCiphertexts-behind, no_wrong-behind}
use Rattle.query_codec.proofs.ReplyBodies.{IsReply-from, no_reply, reply_ciphertexts-is, spelled_reply}
use Rattle.query_codec.proofs.reply.read_reply.Goals as goal

pub returns-in_err-counts-clause-refused : goal.returns-in_err-counts-clause-refused
returns-in_err-counts-clause-refused c =
    let p = err_from_is_err_and c.from_residual.result c.from_residual.ensures.1 in
    rw (p.1, p.2) (no_reply (parameters_of c.args.params.now) c.args.body.now c.in_err-counts.field-0.0 c.in_err-counts.ensures.fault)

pub returns-in_err-cts-clause-refused : goal.returns-in_err-cts-clause-refused
returns-in_err-cts-clause-refused c =
    let params = parameters_of c.args.params.now in
    let body = c.args.body.now in
    let p = err_from_is_err_and c.from_residual-in_err-cts.result c.from_residual-in_err-cts.ensures.1 in
    rw (p.1, p.2)
    (λ other r.
    no_wrong-behind body c.head.result (reply_head params) c.planes.result (reply_planes params (reply_counts params body)) c.head.ensures.head c.planes.ensures.number r.fit
    c.in_err-cts.field-0.0 c.in_err-cts.ensures.fault other)

cts : (c : goal.After-of-cts) → c.of-cts.result ≡ reply_ciphertexts (parameters_of c.args.params.now) c.args.body.now
cts c =
    c.of-cts.ensures ∙ c.in_ok-cts.ensures.read
    ∙ reply_ciphertexts-is (parameters_of c.args.params.now) c.args.body.now c.head.result c.planes.result c.head.ensures.head c.planes.ensures.number

whole : (c : goal.After-of-cts) → IsReply (parameters_of c.args.params.now) c.args.body.now
whole c =
    let p = parameters_of c.args.params.now in
    let body = c.args.body.now in
    IsReply-from p body c.in_ok-counts.ensures.head
    (AreCiphertexts-behind body c.head.result (reply_head p) c.planes.result (reply_planes p (reply_counts p body)) c.head.ensures.head c.planes.ensures.number c.in_ok-cts.ensures.whole)

pub returns-clause-ciphertexts : goal.returns-clause-ciphertexts
returns-clause-ciphertexts c = cts c

pub returns-clause-reply : goal.returns-clause-reply
returns-clause-reply c = whole c

pub returns-clause-spelled : goal.returns-clause-spelled
returns-clause-spelled c =
    spelled_reply (parameters_of c.args.params.now) c.args.body.now c.in_ok-counts.counts c.of-cts.result (whole c) (λ i. (c.type_inv.body i).fits) c.in_ok-counts.ensures.counts (cts c)
