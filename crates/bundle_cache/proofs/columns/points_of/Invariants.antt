use Rattle.std.proofs.Common.{◌≡◌, ◌<◌, take}
use Rattle.std.specs.List.{All}
use Rattle.psi_bundle.specs.Planes.{label_points}
use Rattle.bundle_cache.proofs.columns.points_of.Given as goal

abbrev pub invariant-loop-member : goal.invariant-loop-member
invariant-loop-member l = record {
  points : l.points.items ≡ label_points (take l.member-index l.members) l.part l.unit;
  below : All (λ p. (p.0 < 65537) × (p.1 < 65537)) l.points.items;
}
