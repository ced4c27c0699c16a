use Rattle.std.proofs.Common.{◌≡◌, ◌+◌, ◌∷◌, [], ◌++◌, take, sym, ap, arith, ◌∙◌}
use Rattle.std.proofs.lemmas.List.{take_more}
use Rattle.psi_frames.specs.declared.reply.Reply.{Reply}
use Rattle.psi_frames.specs.Served.{body_of}
use Rattle.psi_demo.specs.Opening.{IsBodiesFault}
use Rattle.psi_demo.specs.Summaries.{bodies_of}
use Rattle.psi_demo.proofs.Made.{handed}
use Rattle.psi_demo.proofs.Opened.{fault-next, next-few, stable-all, stable-full, stable-next}
use Rattle.psi_demo.proofs.stable.open_answers.Goals as goal

pub returns-then-len-eq-OPENED-clause-stable : goal.returns-then-len-eq-OPENED-clause-stable
returns-then-len-eq-OPENED-clause-stable g c =
    stable-full c.args.number c.args.replies.now c.loop-reply.reply-index c.loop-reply.stable.items c.loop-reply.invariant.opened (omega (arith, c.len.ensures, c.if-len-eq-OPENED.true))

pub returns-in_err-open_next-clause-fault : goal.returns-in_err-open_next-clause-fault
returns-in_err-open_next-clause-fault g c =
    let replies = c.args.replies.now in
    let r = c.reply-item.result in
    let fault = c.in_err-open_next.field-0.0 in
    let few = c.loop-reply.invariant.few in
    handed c.from_residual-in_err-open_next.result fault (IsBodiesFault c.args.number (bodies_of replies)) c.from_residual-in_err-open_next.ensures.1
    (fault-next c.args.number replies c.loop-reply.reply-index r c.loop-reply.stable.items fault c.loop-reply.invariant.opened (omega (arith, few, c.len.ensures, c.if-len-eq-OPENED.false)) c.loop-reply-test.true c.reply-item.is c.in_err-open_next.ensures.fault)

pub loop-reply-preserved : goal.loop-reply-preserved
loop-reply-preserved g c =
    let replies = c.args.replies.now in
    let i = c.loop-reply.reply-index in
    let r = c.reply-item.result in
    let old = c.loop-reply.stable.items in
    let new = c.open_next.new.stable.items in
    let few = c.loop-reply.invariant.few in
    let more : take (i + 1) replies ≡ take i replies ++ r ∷ [] = take_more replies i r c.loop-reply-test.true ∙ ap (λ (q : Reply). take i replies ++ q ∷ []) (sym c.reply-item.is) in
    record {
      opened = stable-next c.args.number (take i replies) (take (i + 1) replies) r old new c.loop-reply.invariant.opened c.in_ok-open_next.ensures.opened more;
      few = omega (arith, few, next-few c.args.number (body_of r) old new c.in_ok-open_next.ensures.opened, c.len.ensures, c.if-len-eq-OPENED.false);
    }

pub returns-clause-stable : goal.returns-clause-stable
returns-clause-stable g c =
    stable-all c.args.number c.args.replies.now c.loop-reply.reply-index c.loop-reply.stable.items c.loop-reply.invariant.opened c.loop-reply-test.false c.loop-reply.invariant.few
