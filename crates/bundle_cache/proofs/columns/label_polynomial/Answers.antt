use Rattle.std.proofs.Common.{◌∙◌, ℕ, List, ap, sym, subst, map, get_or}
use Rattle.std.specs.Prelude.{nat_eq}
use Rattle.std.specs.List.{IsDistinct}
use Rattle.psi_bundle.specs.Planes.{label_points}
use Rattle.bundle_cache.proofs.Bins.{points-distinct, interpolated-everywhere}
use Rattle.bundle_cache.proofs.Writing.{whole-written}
use Rattle.bundle_cache.proofs.columns.label_polynomial.Goals as goal

pub interpolate-requires-clause-places_differ : goal.interpolate-requires-clause-places_differ
interpolate-requires-clause-places_differ c =
    subst (λ (ps : List (ℕ × ℕ)). IsDistinct nat_eq (map (λ p. p.0) ps)) (sym (c.deref.ensures.value ∙ c.in_ok-points.ensures.points))
    (points-distinct c.args.members.now c.args.part c.args.unit c.requires.apart c.requires.part)

pub returns-clause-coefficients : goal.returns-clause-coefficients
returns-clause-coefficients c k =
    let points = c.deref.ensures.value ∙ c.in_ok-points.ensures.points in
    ap (λ (xs : List ℕ). get_or xs k 0) (whole-written c.interpolate.new.out c.in_ok-polynomial.polynomial.items c.in_ok-polynomial.polynomial.len cc)
    ∙ interpolated-everywhere c.deref.result.now (label_points c.args.members.now c.args.part c.args.unit) c.interpolate.new.out points c.interpolate.ensures.coefficients c.interpolate.ensures.rest k
