use Rattle.std.proofs.Common.{◌≡◌}
use Rattle.psi_turnstile.proofs.tests.pay_often.Given as goal

abbrev pub invariant-loop-turn : goal.invariant-loop-turn
invariant-loop-turn g l = l.seat.turnstile ≡ l.initial.seat.turnstile
