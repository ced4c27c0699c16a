use Rattle.std.specs.List.{All}
use Rattle.psi_receiver.specs.Works.{IsWork}
use Rattle.psi_receiver.proofs.turns.take_turns.Given as goal

abbrev pub invariant-loop : goal.invariant-loop
invariant-loop g l = All (λ done. IsWork g.F.Fn l.fn.f l.fn.count done.number done.value) l.part.items
