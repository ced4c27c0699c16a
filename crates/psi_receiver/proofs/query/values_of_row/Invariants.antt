use Rattle.std.proofs.Common.{◌≡◌, length}
use Rattle.psi_receiver.proofs.Writes.{AreWritten}
use Rattle.psi_receiver.proofs.query.values_of_row.Given as goal

abbrev pub invariant-loop-i : goal.invariant-loop-i
invariant-loop-i l = record {
  size : length l.values ≡ 4096;
  written : AreWritten l.placed l.row l.i l.values;
}
