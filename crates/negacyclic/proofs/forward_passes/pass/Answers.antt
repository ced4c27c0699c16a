use Rattle.std.proofs.Common.{ℕ, ◌*◌, ◌≡◌, ap, ◌∙◌, arith}
use Rattle.negacyclic.specs.Butterflies.{numbers_of}
use Rattle.negacyclic.proofs.Bounds.{positive_places}
use Rattle.negacyclic.proofs.Placing.{placed-along, placed-below}
use Rattle.negacyclic.proofs.forward_passes.pass.Goals as goal

pub returns-clause-below : goal.returns-clause-below
returns-clause-below c =
    let h : ℕ = 4 * c.args.g in
    let size : c.args.l * h ≡ 1024 = omega (arith, c.requires.rows) in
    let last : c.loop-j.j ≡ c.args.l = omega arith in
    let end : c.loop-j.j * h ≡ 1024 = ap (λ (u : ℕ). u * h) last ∙ size in
    placed-below c.args.q (16 * c.args.l * c.args.q) c.args.l h (numbers_of c.args.factors.now) c.args.from.now c.loop-j.to (positive_places c.args.l c.args.g c.requires.rows) size (omega arith)
    (placed-along c.args.q (16 * c.args.l * c.args.q) c.args.l h (numbers_of c.args.factors.now) c.args.from.now c.loop-j.to (c.loop-j.j * h) 1024 end c.loop-j.invariant)
