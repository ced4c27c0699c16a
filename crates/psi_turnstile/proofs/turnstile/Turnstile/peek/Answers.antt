use Rattle.std.proofs.Common.{rules}
use Rattle.psi_turnstile.proofs.Keeps.{looks_up}
use Rattle.psi_turnstile.proofs.turnstile.Turnstile.peek.Goals as goal

pub load-count-requires : goal.load-count-requires
load-count-requires g c = (search rules, search rules, looks_up g.B.Kept.base g.B.Kept.entries _ _ _ c.seat.invariant.0)
