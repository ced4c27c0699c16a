use Rattle.std.proofs.Common.{◌<◌, ◌≤◌, ◌+◌, ◌*◌, ◌/◌, ◌%◌, ℕ, ap, ◌∙◌, arith}
use Rattle.negacyclic.proofs.Shoup.{quotient_below, rest_below, rest_same, wrapped}
use Rattle.negacyclic.proofs.factors.product.Goals as goal

pub returns-clause-product : goal.returns-clause-product
returns-clause-product c =
    let f = c.args.factor in
    let p : ℕ = c.args.x * f.number in
    let h : ℕ = c.args.x * f.quotient / 18446744073709551616 in
    let le : h * c.args.q ≤ p = quotient_below 18446744073709551616 c.args.q f.number c.args.x f.quotient (omega arith) (omega (arith, c.requires.factor.reduced)) c.requires.factor.scaled in
    let lt : p < h * c.args.q + 2 * c.args.q = rest_below 18446744073709551616 c.args.q f.number c.args.x f.quotient (omega arith) (omega (arith, c.requires.factor.reduced)) (omega arith) c.requires.factor.scaled in
    ap (λ (u : ℕ). u % c.args.q) (wrapped p (h * c.args.q) le (omega (arith, lt))) ∙ rest_same c.args.q p h le

pub returns-clause-below : goal.returns-clause-below
returns-clause-below c =
    let f = c.args.factor in
    let p : ℕ = c.args.x * f.number in
    let h : ℕ = c.args.x * f.quotient / 18446744073709551616 in
    let le : h * c.args.q ≤ p = quotient_below 18446744073709551616 c.args.q f.number c.args.x f.quotient (omega arith) (omega (arith, c.requires.factor.reduced)) c.requires.factor.scaled in
    let lt : p < h * c.args.q + 2 * c.args.q = rest_below 18446744073709551616 c.args.q f.number c.args.x f.quotient (omega arith) (omega (arith, c.requires.factor.reduced)) (omega arith) c.requires.factor.scaled in
    omega (arith, wrapped p (h * c.args.q) le (omega (arith, lt)), lt)
