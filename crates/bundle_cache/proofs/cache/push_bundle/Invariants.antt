use Rattle.std.proofs.Common.{◌≡◌, ◌+◌, ◌*◌, map}
use Rattle.std.specs.List.{range_with_len}
use Rattle.noise_ledger.specs.Verdicts.{parameters_of}
use Rattle.bundle_cache.specs.Caches.{bundle_row, holding}
use Rattle.bundle_cache.proofs.cache.push_bundle.Given as goal

-- the rows of the planes so far
abbrev pub invariant-loop-plane : goal.invariant-loop-plane
invariant-loop-plane g l = l.block ≡ holding l.fn.block (map (bundle_row (parameters_of l.params) l.bundle) (range_with_len 0 (l.plane * (l.params.capacity + 1))))
