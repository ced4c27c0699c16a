use Rattle.std.proofs.Common.{ℕ, List, ◌+◌, ◌*◌, ◌<◌, arith, get_or}
use Rattle.negacyclic.specs.Butterflies.{numbers_of}
use Rattle.negacyclic.proofs.Bounds.{first_inside, forward_more}
use Rattle.negacyclic.proofs.Placing.{placed-more, placed-along, wider_below}
use Rattle.negacyclic.proofs.forward_passes.row.Goals as goal

pub loop-k-preserved : goal.loop-k-preserved
loop-k-preserved c =
    let q : ℕ = c.args.q in
    let l : ℕ = c.args.l in
    let h : ℕ = 4 * c.args.g in
    let j : ℕ = c.args.j in
    let r : ℕ = 4 * c.loop-c.c + c.loop-k.k in
    let numbers : List ℕ = numbers_of c.args.factors.now in
    let at : ℕ = 4 * (j * h) + r in
    let r_lt : r < h = omega arith in
    let inside : at < 4096 = first_inside j h r l c.requires.row r_lt (omega (arith, c.requires.rows)) in
    let below = c.requires.given.below at inside in
    placed-along q (16 * l * q) l h numbers c.args.from.now c.step.new.to (j * h + r + 1) (j * h + (4 * c.loop-c.c + (c.loop-k.k + 1))) (omega arith)
    (placed-more q (16 * l * q) l h j r c.weights_of-w.result.first.number c.weights_of-w.result.second.number c.weights_of-w.result.third.number numbers c.args.from.now c.loop-k.to c.step.new.to
    c.requires.row (omega arith) (omega (arith, c.requires.rows)) c.weights_of-w.ensures.first c.weights_of-w.ensures.second c.weights_of-w.ensures.third
    c.step.ensures.crossed
    (wider_below (get_or c.args.from.now at 0 + 4 * q + 1) (16 * l * q) _ _ _ _ (forward_more q l (get_or c.args.from.now at 0) (omega arith) below) c.step.ensures.below)
    c.step.ensures.kept c.loop-k.invariant)

pub returns : goal.returns
returns c = record {
  placed =
      placed-along c.args.q (16 * c.args.l * c.args.q) c.args.l (4 * c.args.g) (numbers_of c.args.factors.now) c.args.from.now c.loop-c.to
      (c.args.j * (4 * c.args.g) + 4 * c.loop-c.c) ((c.args.j + 1) * (4 * c.args.g)) (omega arith) c.loop-c.invariant;
}
