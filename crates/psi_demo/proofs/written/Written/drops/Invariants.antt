use Rattle.psi_demo.specs.Items.{run}
use Rattle.psi_demo.specs.Scripts.{drop}
use Rattle.psi_demo.specs.Writing.{Writes}
use Rattle.psi_demo.proofs.written.Written.drops.Given as goal

abbrev pub invariant-loop-k : goal.invariant-loop-k
invariant-loop-k l = Writes l.fn.self l.self (run (drop l.number) l.first 8 l.k)
