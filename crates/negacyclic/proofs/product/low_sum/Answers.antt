use Rattle.std.proofs.Common.{◌≡◌, ℕ, ◌+◌, ◌-◌, ◌*◌, get_or, sym, ap, ◌∙◌, arith}
use Rattle.negacyclic.proofs.Convolutions.{first_terms, first_terms-none, first_terms-more, conv-first_terms, term-bound}
use Rattle.negacyclic.proofs.product.low_sum.Goals as goal

pub loop-i-init : goal.loop-i-init
loop-i-init c = record { terms = sym (first_terms-none c.args.a.now c.args.b.now c.args.k); bound = omega arith }

pub loop-i-preserved : goal.loop-i-preserved
loop-i-preserved c =
    let fact = term-bound c.args.m c.args.a.now c.args.b.now c.loop-i.i (c.args.k - c.loop-i.i) c.requires.first c.requires.second (omega arith) (omega arith) in
    record {
      terms = ap (λ (u : ℕ). u + get_or c.args.a.now c.loop-i.i 0 * get_or c.args.b.now (c.args.k - c.loop-i.i) 0) c.loop-i.invariant.terms ∙ sym (first_terms-more c.args.a.now c.args.b.now c.args.k c.loop-i.i);
      bound = omega (arith, fact);
    }

pub returns-clause-sum : goal.returns-clause-sum
returns-clause-sum c =
    let e : c.loop-i.i ≡ c.args.k + 1 = omega arith in
    c.loop-i.invariant.terms ∙ ap (λ (n : ℕ). first_terms c.args.a.now c.args.b.now c.args.k n) e ∙ conv-first_terms c.args.a.now c.args.b.now c.args.k
