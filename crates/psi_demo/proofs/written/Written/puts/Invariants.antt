use Rattle.psi_demo.specs.Items.{run}
use Rattle.psi_demo.specs.Scripts.{put}
use Rattle.psi_demo.specs.Writing.{Writes}
use Rattle.psi_demo.proofs.written.Written.puts.Given as goal

abbrev pub invariant-loop-k : goal.invariant-loop-k
invariant-loop-k l = Writes l.fn.self l.self (run (put l.number) l.first 1 l.k)
