use Rattle.std.proofs.Common.{ℕ, List, ◌+◌, ◌*◌, ◌≡◌, arith, subst}
use Rattle.std.proofs.Math.Nat.{mul-mod_left}
use Rattle.negacyclic.specs.Butterflies.{numbers_of, StepsBelow}
use Rattle.negacyclic.proofs.Placing.{replaced-more, replaced-along}
use Rattle.negacyclic.proofs.inverse_passes.row.Goals as goal

pub loop-k-preserved : goal.loop-k-preserved
loop-k-preserved c =
    let q : ℕ = c.args.q in
    let l : ℕ = c.args.l in
    let h : ℕ = 4 * c.args.g in
    let j : ℕ = c.args.j in
    let r : ℕ = 4 * c.loop-c.c + c.loop-k.k in
    let bound : ℕ = 16 * c.args.g * q in
    let numbers : List ℕ = numbers_of c.args.factors.now in
    let w = c.weights_of-w.result in
    let same : 4 * (h * q) ≡ bound = omega arith in
    replaced-along q bound l h numbers c.args.from.now c.step.new.to (j * h + r + 1) (j * h + (4 * c.loop-c.c + (c.loop-k.k + 1))) (omega arith)
    (replaced-more q bound l h j r w.first.number w.second.number w.third.number numbers c.args.from.now c.loop-k.to c.step.new.to
    c.requires.row (omega arith) c.weights_of-w.ensures.first c.weights_of-w.ensures.second c.weights_of-w.ensures.third
    c.step.ensures.uncrossed
    (subst (λ (u : ℕ). StepsBelow u h (4 * (j * h) + r) c.step.new.to) same c.step.ensures.below)
    c.step.ensures.kept c.loop-k.invariant)

pub returns : goal.returns
returns c = record {
  replaced =
      replaced-along c.args.q (16 * c.args.g * c.args.q) c.args.l (4 * c.args.g) (numbers_of c.args.factors.now) c.args.from.now c.loop-c.to
      (c.args.j * (4 * c.args.g) + 4 * c.loop-c.c) ((c.args.j + 1) * (4 * c.args.g)) (omega arith) c.loop-c.invariant;
}

pub step-requires-clause-multiple : goal.step-requires-clause-multiple
step-requires-clause-multiple c = mul-mod_left (4 * c.args.g) c.args.q
