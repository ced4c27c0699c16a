use Rattle.std.proofs.Common.{◌≡◌, ◌++◌, take}
use Rattle.noise_ledger.specs.Verdicts.{parameters_of}
use Rattle.psi_bundle.specs.Bodies.{evaluated_row}
use Rattle.sender_core.specs.Kept.{row_of}
use Rattle.sender_core.specs.Sights.{seen_row}
use Rattle.bundle_cache.specs.Caches.{cached_bins}
use Rattle.query_pool.proofs.evaluation.evaluate_row.Given as goal

-- the ciphertexts of the bundles so far, with the scratch as it was
abbrev pub invariant-loop-sight : goal.invariant-loop-sight
invariant-loop-sight g l = record {
  evaluated : l.cts.items ≡ l.initial.cts.items ++ evaluated_row (parameters_of l.query.params) l.query.powers.query l.row (take l.sight-index (row_of (seen_row cached_bins l.sights)));
  scratch : l.scratch ≡ l.initial.scratch;
}
