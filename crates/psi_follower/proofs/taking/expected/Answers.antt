use Rattle.std.proofs.Common.{◌∙◌, ap, sym, is_some}
use Rattle.psi_follower.proofs.Telling.{copied-some, would-remove, would-lack, would-see}
use Rattle.psi_follower.proofs.taking.expected.Goals as goal

pub returns-then-is_some : goal.returns-then-is_some
returns-then-is_some c =
    would-remove c.args.book.now c.args.call.now c.in-Drop.tag c.in-Drop.is c.is_some.result (c.is_some.ensures ∙ sym (copied-some c.label.result) ∙ ap is_some c.label.ensures.label) c.if-is_some.true

pub returns-else-is_some : goal.returns-else-is_some
returns-else-is_some c =
    would-lack c.args.book.now c.args.call.now c.in-Drop.tag c.in-Drop.is c.is_some.result (c.is_some.ensures ∙ sym (copied-some c.label.result) ∙ ap is_some c.label.ensures.label) c.if-is_some.false

pub returns-in-Ask : goal.returns-in-Ask
returns-in-Ask c = would-see c.args.book.now c.args.call.now c.in-Ask.is
