use Rattle.std.proofs.Common.{◌≡◌, ◌++◌, take}
use Rattle.bundle_cache.specs.Caches.{holding}
use Rattle.bundle_cache.proofs.rows.push_all.Given as goal

abbrev pub invariant-loop-row : goal.invariant-loop-row
invariant-loop-row l = l.block ≡ holding l.fn.block (l.fn.block.held ++ take l.row-index l.rows)
