use Rattle.std.proofs.Common.{◌≡◌, ◌++◌, take}
use Rattle.std.specs.List.{flat_map}
use Rattle.psi_residue.specs.Parameters.{parameter_bytes}
use Rattle.noise_ledger.specs.Verdicts.{parameters_of}
use Rattle.query_codec.proofs.query.join_query.Given as goal

abbrev pub invariant-loop-piece : goal.invariant-loop-piece
invariant-loop-piece l = l.body.items ≡ parameter_bytes (parameters_of l.params) ++ flat_map (λ piece. piece.items) (take l.piece-index l.pieces)
