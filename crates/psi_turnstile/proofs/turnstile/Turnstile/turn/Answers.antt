use Rattle.std.proofs.Common.{sym, ap, ◌∙◌, subst}
use Rattle.psi_turnstile.proofs.Lines.{turn_base, turn_follows, turn_added, follows_added}
use Rattle.psi_turnstile.proofs.turnstile.Turnstile.turn.Goals as goal

pub returns-clause-act : goal.returns-clause-act
returns-clause-act g c = let same = ap (λ h. h.knows) c.seat.view_is in let d = c.draw-ticket.ensures.drew in let w = c.wait.ensures.turn in let i = c.take-book.ensures.inside in record {
  base = g.B.Kept.base c.take-book.result;
  met = g.B.Kept.entries c.take-book.result;
  same_base = turn_base c.seat.inside.token.me.0 c.args.seat.now.knows c.draw-ticket.new.token.me c.wait.new.token.me d.0 w.0 same d.2 w.1 _ c.take-book.ensures.base;
  follows = turn_follows c.seat.inside.token.me.0 c.args.seat.now.knows c.draw-ticket.new.token.me c.wait.new.token.me d.0 w.0 same d.2 w.1 _ c.take-book.ensures.follows;
  done = subst (λ l. g.A.Act.does c.args.act.now (g.B.Kept.base c.take-book.result) (g.B.Kept.entries c.take-book.result) c.act-out.new.self l c.act-out.result)
      (sym (ap (λ m. m.0.seen) c.give.ensures.left ∙ ap (λ v. v.seen) c.note.ensures.seen)) c.act-out.ensures.does;
  added = turn_added c.seat.inside.token.me.0 c.args.seat.now.knows c.draw-ticket.new.token.me c.wait.new.token.me d.0 w.0 same d.2 w.1 _ c.take-book.new.token.me c.note.new.token.me c.give.new.token.me i.0 _ i.1
      c.note.ensures.added c.give.ensures.left;
}

pub returns-clause-follows : goal.returns-clause-follows
returns-clause-follows g c = let same = ap (λ h. h.knows) c.seat.view_is in let d = c.draw-ticket.ensures.drew in let w = c.wait.ensures.turn in let i = c.take-book.ensures.inside in
    follows_added (g.B.Kept.entries c.take-book.result) c.args.seat.now.knows.own c.give.new.token.me.0 c.args.seat.now.knows
    (turn_added c.seat.inside.token.me.0 c.args.seat.now.knows c.draw-ticket.new.token.me c.wait.new.token.me d.0 w.0 same d.2 w.1 _ c.take-book.new.token.me c.note.new.token.me c.give.new.token.me i.0 _ i.1
    c.note.ensures.added c.give.ensures.left)
    (turn_follows c.seat.inside.token.me.0 c.args.seat.now.knows c.draw-ticket.new.token.me c.wait.new.token.me d.0 w.0 same d.2 w.1 _ c.take-book.ensures.follows)
