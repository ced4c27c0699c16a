use Rattle.std.proofs.Common.{◌≡◌, take}
use Rattle.noise_ledger.specs.Verdicts.{parameters_of}
use Rattle.psi_bundle.specs.Bodies.{evaluated_rows}
use Rattle.sender_core.specs.Kept.{rows_of}
use Rattle.query_pool.proofs.evaluation.evaluate_rows.Given as goal

-- the ciphertexts of the rows so far, with the scratch as it was
abbrev pub invariant-loop-row : goal.invariant-loop-row
invariant-loop-row g l = record {
  evaluated : l.cts.items ≡ evaluated_rows (parameters_of l.query.params) (take l.row (rows_of l.snapshot.rows)) l.query.powers.query;
  scratch : l.scratch ≡ l.initial.scratch;
}
