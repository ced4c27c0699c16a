use Rattle.std.proofs.Common.{◌≡◌, ℕ, [], ◌∷◌, ◌+◌, ◌*◌, arith, subst}
use Rattle.psi_demo.specs.Scripts.{put}
use Rattle.psi_demo.specs.Writing.{Writes}
use Rattle.psi_demo.proofs.Numbering.{length-run, writes-more, writes-none}
use Rattle.psi_demo.proofs.written.Written.puts.Goals as goal

pub loop-k-init : goal.loop-k-init
loop-k-init c = writes-none c.args.self.now

pub put-requires : goal.put-requires
put-requires c =
    omega (arith, c.loop-k.invariant.count, length-run (put c.args.number) c.args.first 1 c.loop-k.k, c.requires.few, c.loop-k-test.true)

pub loop-k-preserved : goal.loop-k-preserved
loop-k-preserved c =
    let at : c.args.first + c.loop-k.k ≡ c.args.first + 1 * c.loop-k.k = omega arith in
    writes-more c.args.self.now c.loop-k.self c.put.new.self (put c.args.number) c.args.first 1 c.loop-k.k c.loop-k.invariant
    (subst (λ (i : ℕ). Writes c.loop-k.self c.put.new.self (put c.args.number i ∷ [])) at c.in_ok-put.ensures)
