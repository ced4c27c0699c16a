use Rattle.std.proofs.Common.{refl}
use Rattle.std.specs.List.{IsDistinct}
use Rattle.label_interp.proofs.tests.through_points.Goals as goal

pub interpolate-requires-clause-places_differ : goal.interpolate-requires-clause-places_differ
unfolding IsDistinct
interpolate-requires-clause-places_differ g c = tt

pub interpolate-requires-2-clause-places_differ : goal.interpolate-requires-2-clause-places_differ
unfolding IsDistinct
interpolate-requires-2-clause-places_differ g c = (tt, tt)

pub interpolate-requires-3-clause-places_differ : goal.interpolate-requires-3-clause-places_differ
unfolding IsDistinct
interpolate-requires-3-clause-places_differ g c = ((refl, tt), (tt, tt))

pub interpolate-requires-4-clause-places_differ : goal.interpolate-requires-4-clause-places_differ
unfolding IsDistinct
interpolate-requires-4-clause-places_differ g c = ((refl, (refl, tt)), ((refl, tt), (tt, tt)))

pub interpolate-requires-5-clause-places_differ : goal.interpolate-requires-5-clause-places_differ
unfolding IsDistinct
interpolate-requires-5-clause-places_differ g c = ((refl, (refl, (refl, (refl, tt)))), ((refl, (refl, (refl, tt))), ((refl, (refl, tt)), ((refl, tt), (tt, tt)))))
