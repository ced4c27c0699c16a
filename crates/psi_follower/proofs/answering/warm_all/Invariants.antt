use Rattle.psi_follower.specs.Inner.Warming.{HasOtherCaches}
use Rattle.psi_follower.proofs.answering.warm_all.Given as goal

abbrev pub invariant-loop : goal.invariant-loop
invariant-loop g l = HasOtherCaches l.initial.book l.book
