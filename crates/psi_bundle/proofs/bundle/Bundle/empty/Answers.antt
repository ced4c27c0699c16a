use Rattle.std.proofs.Common.{List, replicate, ap, ◌∙◌}
use Rattle.psi_bundle.specs.declared.member.Member.{Member}
use Rattle.psi_bundle.specs.Bins.{empty_bins}
use Rattle.psi_bundle.proofs.bundle.Bundle.empty.Goals as goal

pub returns : goal.returns
unfolding empty_bins
returns c = c.in_ok-bins.ensures ∙ ap (λ (bin : List Member). replicate 819 bin) (c.in_ok-none.ensures.ok ∙ c.in_ok-empty.ensures)
