use Rattle.std.proofs.Common.{◌≡◌, ◌∙◌, sym, ap, subst}
use Rattle.psi_residue.specs.Parameters.{Parameters}
use Rattle.noise_ledger.specs.Verdicts.{parameters_of}
use Rattle.psi_bundle.specs.Versions.{HasLabelLength}
use Rattle.psi_bundle.specs.declared.history.Call.TheVariants as call
use Rattle.psi_frames.specs.declared.reply.Reply.TheVariants as reply
use Rattle.psi_frames.specs.declared.request.Request.{Request}
use Rattle.psi_frames.specs.Requests.{IsFit, call_of, code_of, is_repack, asked_ciphertexts}
use Rattle.query_pool.specs.Exchanges.{IsOne, lane_exchange}
use Rattle.query_pool.proofs.Answering.{asked-one, changed-one, repacked-one}
use Rattle.query_pool.proofs.OneByOne.{one-bad}
use Rattle.query_pool.proofs.lane.answer.Goals as goal

pub returns-in-Put-clause-one : goal.returns-in-Put-clause-one
returns-in-Put-clause-one g c = λ z seated.
    let r = c.args.numbered.request in
    changed-one z c.args.seat.now.knows c.put.new.seat.knows r c.put.result seated c.put.ensures.went (call.Put c.in-Put.tag c.in-Put.label) (ap code_of c.in-Put.is)
    (λ x. ap (λ (q : Request). call_of q x) c.in-Put.is) (ap is_repack c.in-Put.is) c.put.ensures.told c.put.ensures.from c.put.ensures.body

pub returns-in-Drop-clause-one : goal.returns-in-Drop-clause-one
returns-in-Drop-clause-one g c = λ z seated.
    let r = c.args.numbered.request in
    changed-one z c.args.seat.now.knows c.drop_tag.new.seat.knows r c.drop_tag.result seated c.drop_tag.ensures.went (call.Drop c.in-Drop.tag) (ap code_of c.in-Drop.is)
    (λ x. ap (λ (q : Request). call_of q x) c.in-Drop.is) (ap is_repack c.in-Drop.is) c.drop_tag.ensures.told c.drop_tag.ensures.from c.drop_tag.ensures.body

pub returns-in-Ask-clause-one : goal.returns-in-Ask-clause-one
returns-in-Ask-clause-one g c = λ z seated.
    let r = c.args.numbered.request in
    let query : c.into_vec.result.items ≡ asked_ciphertexts r = c.into_vec.ensures ∙ sym (ap asked_ciphertexts c.in-Ask.is) in
    asked-one z c.args.seat.now.knows c.ask.new.seat.knows r c.ask.result seated c.ask.ensures.went c.into_vec.result.items (ap code_of c.in-Ask.is)
    (λ x. ap (λ (q : Request). call_of q x) c.in-Ask.is) (ap is_repack c.in-Ask.is) query c.ask.ensures.told c.ask.ensures.from (c.ask.ensures.evaluated z seated.base)

pub returns-in-Repack-clause-one : goal.returns-in-Repack-clause-one
returns-in-Repack-clause-one g c = λ z seated.
    let r = c.args.numbered.request in
    repacked-one z c.args.seat.now.knows c.repack.new.seat.knows r c.repack.result seated c.repack.ensures.went c.in-Repack.row (ap code_of c.in-Repack.is)
    (λ x. ap (λ (q : Request). call_of q x) c.in-Repack.is) c.repack.ensures.told c.repack.ensures.from c.repack.ensures.tells_from c.repack.ensures.body

pub returns-in-Bad-clause-one : goal.returns-in-Bad-clause-one
returns-in-Bad-clause-one g c = λ z seated.
    let v = c.args.seat.now.knows in
    let p = parameters_of c.args.params.now in
    let fit = subst (λ (r : Request). IsFit p r) c.in-Bad.is c.requires.fit in
    subst (λ (r : Request). IsOne z v v (lane_exchange r (reply.Refused c.in-Bad.code))) (sym c.in-Bad.is) (one-bad z v p _ _ c.in-Bad.code seated fit)

pub put-requires-clause-length : goal.put-requires-clause-length
put-requires-clause-length g c _ _ = λ z is.
    let p = parameters_of c.args.params.now in
    let fit = subst (λ (r : Request). IsFit p r) c.in-Put.is c.requires.fit in
    subst (λ (q : Parameters). HasLabelLength q c.in-Put.label) (sym (c.requires.under z is)) fit
