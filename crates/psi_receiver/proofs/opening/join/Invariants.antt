use Rattle.std.proofs.Common.{◌≡◌, ◌++◌}
use Rattle.std.specs.List.{flat_map}
use Rattle.std.specs.Vec.Iter.{into_iter_items}
use Rattle.psi_receiver.proofs.opening.join.Given as goal

-- what is joined, and what is left, are all lists
abbrev pub invariant-loop-list : goal.invariant-loop-list
invariant-loop-list l =
    l.all.items ++ flat_map (λ list. list.items) (into_iter_items l.list-iterator) ≡ flat_map (λ list. list.items) (into_iter_items l.initial.list-iterator)
