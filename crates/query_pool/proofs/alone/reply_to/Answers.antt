use Rattle.std.proofs.Common.{◌≡◌, ◌∙◌, ℕ, List, length, refl, sym, ap, subst}
use Rattle.std.proofs.lemmas.Result.{IfOk-weaker}
use Rattle.noise_ledger.specs.Verdicts.{parameters_of}
use Rattle.psi_bundle.specs.declared.history.Call.TheVariants as call
use Rattle.query_codec.specs.Replies.{reply_body}
use Rattle.psi_frames.specs.declared.reply.Reply.TheVariants as reply
use Rattle.psi_frames.specs.declared.request.Request.{Request}
use Rattle.psi_frames.specs.Requests.{call_of, code_of, asked_ciphertexts}
use Rattle.sender_core.specs.Kept.{version_of}
use Rattle.query_pool.specs.Alone.{IsAnsweredAlone}
use Rattle.query_pool.proofs.Calls.{answered, coded}
use Rattle.query_pool.proofs.alone.reply_to.Goals as goal

pub returns-in-Put-clause-answered : goal.returns-in-Put-clause-answered
returns-in-Put-clause-answered g c =
    let p = parameters_of c.args.params.now in
    let old = c.args.book.now in
    let r = c.args.request in
    let body = reply_body p (version_of old).rows (asked_ciphertexts r) in
    IfOk-weaker c.put.result _ (IsAnsweredAlone p old c.put.new.book r)
    (λ told h.
    answered p old c.put.new.book r (call.Put c.in-Put.tag c.in-Put.label) body told (ap code_of c.in-Put.is) (ap (λ (q : Request). call_of q (length old.journal)) c.in-Put.is) refl (h body))
    c.put.ensures.called

pub returns-in-Drop-clause-answered : goal.returns-in-Drop-clause-answered
returns-in-Drop-clause-answered g c =
    let p = parameters_of c.args.params.now in
    let old = c.args.book.now in
    let r = c.args.request in
    let body = reply_body p (version_of old).rows (asked_ciphertexts r) in
    IfOk-weaker c.drop_tag.result _ (IsAnsweredAlone p old c.drop_tag.new.book r)
    (λ told h.
    answered p old c.drop_tag.new.book r (call.Drop c.in-Drop.tag) body told (ap code_of c.in-Drop.is) (ap (λ (q : Request). call_of q (length old.journal)) c.in-Drop.is) refl (h body))
    c.drop_tag.ensures.called

pub returns-in-Ask-clause-answered : goal.returns-in-Ask-clause-answered
returns-in-Ask-clause-answered g c =
    let p = parameters_of c.args.params.now in
    let old = c.args.book.now in
    let r = c.args.request in
    let query : c.into_vec.result.items ≡ asked_ciphertexts r = c.into_vec.ensures ∙ sym (ap asked_ciphertexts c.in-Ask.is) in
    let asked = ap (λ (q : List (List (List ℕ))). reply_body p (version_of old).rows q) query in
    IfOk-weaker c.ask.result _ (IsAnsweredAlone p old c.ask.new.book r)
    (λ told h.
    answered p old c.ask.new.book r call.Ask (reply_body p (version_of old).rows c.into_vec.result.items) told (ap code_of c.in-Ask.is) (ap (λ (q : Request). call_of q (length old.journal)) c.in-Ask.is) asked h)
    c.ask.ensures.called

pub returns-in-Repack-clause-answered : goal.returns-in-Repack-clause-answered
returns-in-Repack-clause-answered g c =
    let p = parameters_of c.args.params.now in
    let old = c.args.book.now in
    let r = c.args.request in
    let body = reply_body p (version_of old).rows (asked_ciphertexts r) in
    IfOk-weaker c.repack.result _ (IsAnsweredAlone p old c.repack.new.book r)
    (λ told h.
    answered p old c.repack.new.book r (call.Repack c.in-Repack.row (length old.journal)) body told (ap code_of c.in-Repack.is) (ap (λ (q : Request). call_of q (length old.journal)) c.in-Repack.is) refl (h body))
    c.repack.ensures.called

pub returns-in-Bad-clause-answered : goal.returns-in-Bad-clause-answered
returns-in-Bad-clause-answered g c =
    let p = parameters_of c.args.params.now in
    let old = c.args.book.now in
    subst (λ (r : Request). IsAnsweredAlone p old old r (reply.Refused c.in-Bad.code)) (sym c.in-Bad.is) (coded p old _ _ c.in-Bad.code)
