use Rattle.std.proofs.Common.{ap, subst, sym, Some, ◌∙◌}
use Rattle.psi_frames.specs.declared.reply.Reply.{Reply}
use Rattle.psi_frames.specs.ReplyFrames.{Tells}
use Rattle.psi_frames.proofs.ReplyLaws.{row-tells, tells-again}
use Rattle.psi_frames.proofs.answer.read_reply.Goals as goal

pub returns-in_ok-told_reply-clause-only : goal.returns-in_ok-told_reply-clause-only
returns-in_ok-told_reply-clause-only c = λ r tells. ap (λ (x : Reply). Some x) (c.in_ok-told_reply.ensures ∙ tells-again c.args.kind c.args.body.now r tells)

pub returns-in_ok-told_reply-clause-tells : goal.returns-in_ok-told_reply-clause-tells
returns-in_ok-told_reply-clause-tells c =
    subst (Tells c.args.kind c.args.body.now) (sym c.in_ok-told_reply.ensures)
    (row-tells c.args.kind c.args.body.now (sym c.is_reply_row.ensures ∙ c.if-is_reply_row.true) (λ i. (c.type_inv.body i).fits))
