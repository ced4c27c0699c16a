use Rattle.std.proofs.Common.{rules, sym, subst}
use Rattle.psi_turnstile.specs.Telling.{IsWaiting}
use Rattle.psi_turnstile.proofs.Keeps.{looks}
use Rattle.psi_turnstile.proofs.steps.wait.Goals as goal

pub load-found-requires : goal.load-found-requires
load-found-requires g c = (search rules, search rules, looks g.B.Kept.base g.B.Kept.entries _ _ _ c.args.ticket (subst (IsWaiting c.args.ticket) (sym c.loop.invariant.1) c.requires.waiting))
