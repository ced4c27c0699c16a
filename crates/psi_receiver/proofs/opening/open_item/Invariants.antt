use Rattle.std.proofs.Common.{◌≡◌}
use Rattle.noise_ledger.specs.Verdicts.{parameters_of}
use Rattle.psi_receiver.proofs.Steps.{opened_below}
use Rattle.psi_receiver.proofs.opening.open_item.Given as goal

abbrev pub invariant-loop-bundle : goal.invariant-loop-bundle
invariant-loop-bundle l =
    l.found.items ≡ opened_below (record { parameters = parameters_of l.params; counts = l.counts; planes = l.planes }) l.x l.bundle
