use Rattle.std.proofs.Common.{ℕ, List, ◌+◌, ◌*◌, ◌≡◌, arith, subst}
use Rattle.negacyclic.specs.Butterflies.{numbers_of, AreUncrossed, StepsBelow, StepsKept, AreReplaced}
use Rattle.negacyclic.proofs.Placing.{replaced-more, replaced-along, replaced-below}
use Rattle.negacyclic.proofs.inverse_passes.first_pass.Goals as goal

pub loop-k-preserved : goal.loop-k-preserved
loop-k-preserved c =
    let q : ℕ = c.args.q in
    let j : ℕ = 4 * c.loop-c.c + c.loop-k.k in
    let numbers : List ℕ = numbers_of c.args.factors.now in
    let w = c.weights_of.result in
    let at : 4 * j ≡ 4 * (j * 1) + 0 = omega arith in
    let place : j ≡ j * 1 + 0 = omega arith in
    replaced-along q (4 * q) 1024 1 numbers c.args.from.now c.step.new.to (j * 1 + 0 + 1) (4 * c.loop-c.c + (c.loop-k.k + 1)) (omega arith)
    (replaced-more q (4 * q) 1024 1 j 0 w.first.number w.second.number w.third.number numbers c.args.from.now c.loop-k.to c.step.new.to
    (omega arith) (omega arith) c.weights_of.ensures.first c.weights_of.ensures.second c.weights_of.ensures.third
    (subst (λ (u : ℕ). AreUncrossed q w.first.number w.second.number w.third.number 1 (4 * (j * 1) + 0) u c.args.from.now c.step.new.to) place
    (subst (λ (u : ℕ). AreUncrossed q w.first.number w.second.number w.third.number 1 u j c.args.from.now c.step.new.to) at c.step.ensures.uncrossed))
    (subst (λ (u : ℕ). StepsBelow (4 * q) 1 u c.step.new.to) at c.step.ensures.below)
    (subst (λ (u : ℕ). StepsKept 1 u c.loop-k.to c.step.new.to) at c.step.ensures.kept)
    (subst (λ (u : ℕ). AreReplaced q (4 * q) 1024 1 numbers c.args.from.now c.loop-k.to u) place c.loop-k.invariant))

pub returns-clause-below : goal.returns-clause-below
returns-clause-below c =
    replaced-below c.args.q (4 * c.args.q) 1024 1 (numbers_of c.args.factors.now) c.args.from.now c.loop-c.to (omega arith) (omega arith) (omega arith)
    (replaced-along c.args.q (4 * c.args.q) 1024 1 (numbers_of c.args.factors.now) c.args.from.now c.loop-c.to (4 * c.loop-c.c) 1024 (omega arith) c.loop-c.invariant)
