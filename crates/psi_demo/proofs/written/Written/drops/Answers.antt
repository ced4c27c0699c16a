use Rattle.std.proofs.Common.{arith}
use Rattle.psi_demo.specs.Scripts.{drop}
use Rattle.psi_demo.proofs.Numbering.{length-run, writes-more, writes-none}
use Rattle.psi_demo.proofs.written.Written.drops.Goals as goal

pub loop-k-init : goal.loop-k-init
loop-k-init c = writes-none c.args.self.now

pub drop-requires : goal.drop-requires
drop-requires c =
    omega (arith, c.loop-k.invariant.count, length-run (drop c.args.number) c.args.first 8 c.loop-k.k, c.requires.few, c.loop-k-test.true)

pub loop-k-preserved : goal.loop-k-preserved
loop-k-preserved c =
    writes-more c.args.self.now c.loop-k.self c.drop.new.self (drop c.args.number) c.args.first 8 c.loop-k.k c.loop-k.invariant c.in_ok-drop.ensures
