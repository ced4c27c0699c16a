use Rattle.std.proofs.Common.{◌≡◌, ℕ, ◌+◌, ◌-◌, ◌*◌, get_or, sym, ap, ◌∙◌, arith}
use Rattle.negacyclic.proofs.Convolutions.{first_terms, first_terms-past, first_terms-more, high_conv, term-bound}
use Rattle.negacyclic.proofs.product.high_sum.Goals as goal

pub loop-i-init : goal.loop-i-init
loop-i-init c = record { terms = sym (first_terms-past c.args.a.now c.args.b.now (c.args.k + 4096) (c.args.k + 1) (omega arith)); bound = omega arith }

pub loop-i-preserved : goal.loop-i-preserved
loop-i-preserved c =
    let s : ℕ = c.args.k + 4096 in
    let fact = term-bound c.args.m c.args.a.now c.args.b.now c.loop-i.i (s - c.loop-i.i) c.requires.first c.requires.second (omega arith) (omega arith) in
    record {
      terms = ap (λ (u : ℕ). u + get_or c.args.a.now c.loop-i.i 0 * get_or c.args.b.now (s - c.loop-i.i) 0) c.loop-i.invariant.terms ∙ sym (first_terms-more c.args.a.now c.args.b.now s c.loop-i.i);
      bound = omega (arith, fact);
    }

pub returns : goal.returns
returns c =
    let e : c.loop-i.i ≡ 4096 = omega arith in
    c.loop-i.invariant.terms ∙ ap (λ (n : ℕ). first_terms c.args.a.now c.args.b.now (c.args.k + 4096) n) e ∙ high_conv c.args.a.now c.args.b.now c.args.k c.requires.first.size c.requires.place
