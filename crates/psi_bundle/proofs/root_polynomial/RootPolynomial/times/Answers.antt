use Rattle.std.proofs.Common.{◌≡◌, List, ℕ, [], ◌∷◌, ◌++◌, length, sym, ap, ◌∙◌, subst, arith}
use Rattle.psi_bundle.specs.KeptPolynomials.{GainsRoot}
use Rattle.psi_bundle.proofs.RootChanges.{GainsRoot-padded, written-whole}
use Rattle.psi_bundle.proofs.root_polynomial.RootPolynomial.times.Goals as goal

pub returns : goal.returns
returns c =
    let poly = c.deref_mut.result.now in
    let size : length c.times_root.new.poly ≡ length poly = omega arith in
    let padded : poly ≡ c.args.self.now ++ 0 ∷ []
    = c.deref_mut.ensures.value ∙ c.in_ok-push.ensures.items ∙ ap (λ (xs : List ℕ). xs ++ 0 ∷ [])
    (c.in_ok-extend_from_slice.ensures.items ∙ ap (λ (xs : List ℕ). xs ++ c.deref.result.now) c.in_ok-coefficients.ensures.items ∙ c.deref.ensures.value ∙ c.self.view_is) in
    let product = GainsRoot-padded c.args.root c.ranges.root.fits c.args.self.now poly c.times_root.new.poly padded size c.times_root.ensures.roots in
    subst (GainsRoot c.args.root c.args.self.now)
    (sym (written-whole c.times_root.new.poly c.push.new.self.items c.push.new.self.len (size ∙ ap length c.deref_mut.ensures.value) (omega arith))) product
