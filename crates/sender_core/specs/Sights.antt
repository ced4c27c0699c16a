-- What a snapshot shows.
use Rattle.std.specs.Prelude.{List, map, Option, Some, None}
use Rattle.std.specs.Arc.{arc_value}
use Rattle.psi_bundle.specs.declared.member.Member.{Member}
use Rattle.sender_core.specs.declared.snapshot.Sight.{Sight}
use Rattle.sender_core.specs.declared.snapshot.Sight.TheVariants as sight
use Rattle.sender_core.specs.Kept.{Kept}

module _ {C : Type 0} (contents : C → List (List Member)) where
  -- the bins that a cache is for, and else these
  abbrev pub bins_by : Option C → List (List Member) → List (List Member)
  bins_by (Some c) bins = contents c
  bins_by None bins = bins

  -- a bundle as it is seen; one with a cache is the bundle that the cache is for
  abbrev pub seen_of : Sight C → Kept C
  seen_of (sight.Bare bundle stamp) = record { stamp = stamp; bins = arc_value bundle; cache = None }
  seen_of (sight.Ready cache stamp) = record { stamp = stamp; bins = contents (arc_value cache); cache = Some (arc_value cache) }

  -- a bundle with the bins that its cache is for, where it has one
  abbrev pub with_cached_bins : Kept C → Kept C
  with_cached_bins k = record { stamp = k.stamp; bins = bins_by k.cache k.bins; cache = k.cache }

  -- the bundles of a row as they are seen
  abbrev pub seen_row : List (Sight C) → List (Kept C)
  seen_row ss = map seen_of ss
