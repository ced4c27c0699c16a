use Rattle.std.proofs.Common.{◌≤◌, ◌+◌, length}
use Rattle.std.specs.List.{All}
use Rattle.std.specs.Vec.Iter.{into_iter_items}
use Rattle.noise_ledger.specs.Verdicts.{parameters_of}
use Rattle.psi_frames.specs.Frames.{IsFrame, request_table}
use Rattle.psi_frames.specs.Rounds.{frames_of_round}
use Rattle.psi_frames.proofs.RoundRequests.{Reads}
use Rattle.psi_frames.proofs.round_requests.requests_of_round.Given as goal

-- what was read and the requests of the other frames are all of them
abbrev pub invariant-loop-frame : goal.invariant-loop-frame
invariant-loop-frame l = record {
  reads : Reads (parameters_of l.params) l.asks_before l.asks (into_iter_items l.frame-iterator) l.requests.items (into_iter_items l.initial.frame-iterator);
  each : All (IsFrame request_table) (into_iter_items l.frame-iterator);
  asks : l.asks + length (into_iter_items l.frame-iterator) ≤ frames_of_round;
}
