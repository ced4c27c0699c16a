use Rattle.std.proofs.Common.{◌≡◌, map}
use Rattle.std.specs.List.{range_with_len}
use Rattle.psi_receiver.specs.Queries.{row_values}
use Rattle.psi_receiver.proofs.query.values_of_rows.Given as goal

abbrev pub invariant-loop-row : goal.invariant-loop-row
invariant-loop-row l = l.values.items ≡ map (row_values l.placed) (range_with_len 0 l.row)
