use Rattle.std.proofs.Common.{◌∙◌, ap, sym, subst, take, ℕ, List, arith}
use Rattle.std.proofs.lemmas.List.{length-take-le}
use Rattle.psi_residue.specs.Numbers.{modulus_of}
use Rattle.psi_residue.specs.Polynomials.{IsPolynomial}
use Rattle.negacyclic.proofs.TransformLaws.{IsPolynomial-values_of}
use Rattle.bundle_cache.specs.Queries.{modulus_of_list}
use Rattle.bundle_cache.proofs.Cells.{first-half, rest-half, even-at, odd-at}
use Rattle.bundle_cache.proofs.cache.Cache.cell.Goals as goal

pub slice_bounds-result-end : goal.slice_bounds-result-end
slice_bounds-result-end c = let front = length-take-le 4096 c.row-row.result.now (omega (arith, c.row-row.ensures.size)) in omega (arith, front)

pub returns-then-list-eq0-clause-values : goal.returns-then-list-eq0-clause-values
returns-then-list-eq0-clause-values c =
    ap (take 4096) c.row-row.ensures.transforms ∙ first-half _ ∙ even-at c.args.list _ (omega (arith, c.if-list-eq0.true))

pub returns-then-list-eq0-clause-reduced : goal.returns-then-list-eq0-clause-reduced
returns-then-list-eq0-clause-reduced c =
    subst (λ (xs : List ℕ). IsPolynomial (modulus_of (modulus_of_list c.args.list)) xs) (sym (returns-then-list-eq0-clause-values c)) (IsPolynomial-values_of (modulus_of_list c.args.list) _)

pub returns-else-list-eq0-clause-values : goal.returns-else-list-eq0-clause-values
returns-else-list-eq0-clause-values c =
    rest-half c.row-row.result.now _ c.row-row.ensures.size c.row-row.ensures.transforms ∙ odd-at c.args.list _ c.if-list-eq0.false

pub returns-else-list-eq0-clause-reduced : goal.returns-else-list-eq0-clause-reduced
returns-else-list-eq0-clause-reduced c =
    subst (λ (xs : List ℕ). IsPolynomial (modulus_of (modulus_of_list c.args.list)) xs) (sym (returns-else-list-eq0-clause-values c)) (IsPolynomial-values_of (modulus_of_list c.args.list) _)
