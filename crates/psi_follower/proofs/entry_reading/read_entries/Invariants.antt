use Rattle.std.proofs.Common.{◌≡◌, ◌-◌, ◌≤◌, ◌++◌, take, length}
use Rattle.std.specs.List.{All}
use Rattle.noise_ledger.specs.Verdicts.{parameters_of}
use Rattle.psi_follower.specs.EntryBytes.{IsReadable, list_bytes}
use Rattle.psi_follower.proofs.EntryLaws.{cut_at}
use Rattle.psi_follower.proofs.entry_reading.read_entries.Given as goal

abbrev pub invariant-loop-at : goal.invariant-loop-at
invariant-loop-at l = (list_bytes l.feds.items ≡ take l.at l.bytes) × All (IsReadable (parameters_of l.params)) l.feds.items × (l.at ≤ length l.bytes)

abbrev pub decreases-loop-at : goal.decreases-loop-at
decreases-loop-at l = length l.bytes - l.at
