use Rattle.std.proofs.Common.{subst}
use Rattle.psi_turnstile.specs.Knowing.{Follows}
use Rattle.psi_turnstile.proofs.Lines.{follows_first, follows_second}
use Rattle.psi_turnstile.proofs.turnstile.Turnstile.meet.Goals as goal

pub returns-clause-follows : goal.returns-clause-follows
returns-clause-follows g c = follows_first _ c.args.seat.now.knows c.args.note.knows (subst (Follows c.peek.new.seat.knows.seen) c.join.ensures.joined c.peek.ensures.follows)

pub returns-clause-follows_note : goal.returns-clause-follows_note
returns-clause-follows_note g c = follows_second _ c.args.seat.now.knows c.args.note.knows (subst (Follows c.peek.new.seat.knows.seen) c.join.ensures.joined c.peek.ensures.follows)
