use Rattle.std.proofs.Common.{◌≡◌, ◌≤◌, length}
use Rattle.std.specs.Vec.{vec_capacity}
use Rattle.std.specs.List.{All, fold}
use Rattle.noise_ledger.specs.Verdicts.{parameters_of}
use Rattle.row_block.specs.Shelves.{shelf_room}
use Rattle.bundle_cache.specs.Caches.{IsBundleBlock}
use Rattle.psi_rebuilder.specs.Building.{shelved}
use Rattle.psi_rebuilder.proofs.Receipts.{HasBuilt}
use Rattle.psi_rebuilder.proofs.building.build_some.Given as goal

-- the receipts so far, and the seat and the shelf behind them
abbrev pub invariant-loop : goal.invariant-loop
invariant-loop g l = record {
  number : length l.receipts.items ≡ l.counter;
  room : vec_capacity l.receipts ≡ l.budget;
  built : HasBuilt l.skip l.initial.seat.knows l.seat.knows l.receipts.items;
  here : l.seat.turnstile ≡ l.initial.seat.turnstile;
  shelf : All (IsBundleBlock (parameters_of l.params)) l.shelf;
  blocks : length l.initial.shelf ≤ shelf_room → (length l.shelf ≡ fold shelved (length l.initial.shelf) l.receipts.items) × (length l.shelf ≤ shelf_room);
}
