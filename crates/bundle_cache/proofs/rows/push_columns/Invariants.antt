use Rattle.std.proofs.Common.{◌-◌, ◌≡◌, ◌≤◌, ◌++◌, map}
use Rattle.std.specs.List.{range_with_len}
use Rattle.bundle_cache.specs.Caches.{holding}
use Rattle.bundle_cache.specs.Columns.{row_of_column}
use Rattle.bundle_cache.proofs.rows.push_columns.Given as goal

abbrev pub invariant-loop-done : goal.invariant-loop-done
invariant-loop-done g l = record {
  within : l.done ≤ l.count;
  rows : l.block ≡ holding l.fn.block (l.fn.block.held ++ map (row_of_column l.columns) (range_with_len 0 l.done));
}

abbrev pub decreases-loop-done : goal.decreases-loop-done
decreases-loop-done g l = l.count - l.done
