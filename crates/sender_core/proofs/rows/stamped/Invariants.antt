use Rattle.std.proofs.Common.{◌≡◌, map}
use Rattle.sender_core.specs.Shown.{kept_of_row}
use Rattle.sender_core.specs.Changes.{bare_with}
use Rattle.sender_core.proofs.rows.stamped.Given as goal

abbrev pub invariant-loop-bundle : goal.invariant-loop-bundle
invariant-loop-bundle g l = kept_of_row l.row.items ≡ map (bare_with l.stamp) l.yielded
