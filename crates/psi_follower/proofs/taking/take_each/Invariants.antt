use Rattle.std.proofs.Common.{◌≡◌, ◌+◌, take}
use Rattle.sender_core.specs.Kept.{start_of}
use Rattle.psi_follower.specs.Taking.{HasTaken}
use Rattle.psi_follower.proofs.taking.take_each.Given as goal

abbrev pub invariant-loop-entry : goal.invariant-loop-entry
invariant-loop-entry l =
    HasTaken (start_of l.initial.book) l.initial.book.journal l.first (take l.entry-index l.entries) l.book.journal
    × (l.place ≡ l.first + l.entry-index)
    × (l.book.parameters ≡ l.initial.book.parameters)
    × (start_of l.book ≡ start_of l.initial.book)
