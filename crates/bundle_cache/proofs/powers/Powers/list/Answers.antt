use Rattle.std.proofs.Common.{◌≡◌, ◌∙◌, ◌*◌, ◌+◌, ℕ, List, length, get_or, ap, sym, subst, arith}
use Rattle.psi_residue.specs.Numbers.{modulus_of}
use Rattle.psi_residue.specs.Polynomials.{IsPolynomial}
use Rattle.psi_residue.specs.Ciphertexts.{ciphertext_at, list_at, list_modulus}
use Rattle.negacyclic.specs.Transforms.{values_of}
use Rattle.negacyclic.proofs.TransformLaws.{IsPolynomial-polynomial_of}
use Rattle.bundle_cache.specs.Queries.{PowersOf, modulus_of_list}
use Rattle.bundle_cache.proofs.Cells.{list-of_query, values-of_query, place-within}
use Rattle.bundle_cache.proofs.powers.Powers.list.Goals as goal

pub returns-clause-values : goal.returns-clause-values
returns-clause-values c =
    let kept = c.self.inside.transforms.items in
    let place = c.args.row * c.args.self.now.parameters.capacity + c.args.power in
    let within = place-within c.args.row c.args.self.now.parameters.rows c.args.self.now.parameters.capacity c.args.power c.requires.row c.requires.power in
    let size : length kept ≡ c.args.self.now.parameters.rows * c.args.self.now.parameters.capacity = c.self.invariant ∙ ap (λ (x : PowersOf). x.parameters.rows * x.parameters.capacity) c.self.view_is in
    let at = c.from-2.ensures ∙ ap (λ (x : PowersOf). x.parameters.capacity) c.self.view_is in
    let is = c.index.ensures ∙ (λ i. get_or kept (c.from.ensures i * at i + c.args.power) c.index.result.now) in
    c.residues.ensures.residues
    ∙ values-of_query kept place c.args.list c.index.result.now _ c.requires.list (omega (arith, within, size)) is
    (subst (λ (xs : List ℕ). IsPolynomial (list_modulus c.args.list) xs) c.residues.ensures.residues c.residues.ensures.below)
    ∙ ap (λ (x : PowersOf). values_of (modulus_of_list c.args.list) (list_at (ciphertext_at x.query place) c.args.list)) c.self.view_is

pub returns-clause-polynomial : goal.returns-clause-polynomial
returns-clause-polynomial c =
    let kept = c.self.inside.transforms.items in
    let place = c.args.row * c.args.self.now.parameters.capacity + c.args.power in
    let within = place-within c.args.row c.args.self.now.parameters.rows c.args.self.now.parameters.capacity c.args.power c.requires.row c.requires.power in
    let size : length kept ≡ c.args.self.now.parameters.rows * c.args.self.now.parameters.capacity = c.self.invariant ∙ ap (λ (x : PowersOf). x.parameters.rows * x.parameters.capacity) c.self.view_is in
    let at = c.from-2.ensures ∙ ap (λ (x : PowersOf). x.parameters.capacity) c.self.view_is in
    let is = c.index.ensures ∙ (λ i. get_or kept (c.from.ensures i * at i + c.args.power) c.index.result.now) in
    subst (λ (xs : List ℕ). IsPolynomial (modulus_of (modulus_of_list c.args.list)) xs)
    (sym (list-of_query kept place c.args.list c.index.result.now _ c.requires.list (omega (arith, within, size)) is) ∙ ap (λ (x : PowersOf). list_at (ciphertext_at x.query place) c.args.list) c.self.view_is)
    (IsPolynomial-polynomial_of (modulus_of_list c.args.list) (list_at c.index.result.now c.args.list))
