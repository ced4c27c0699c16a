use Rattle.std.proofs.Common.{◌≡◌}
use Rattle.live_sender.proofs.tests.put_often.Given as goal

abbrev pub invariant-loop-turn : goal.invariant-loop-turn
invariant-loop-turn g l = (l.seat.turnstile ≡ l.initial.seat.turnstile) × (l.seat.knows.base ≡ l.initial.seat.knows.base)
