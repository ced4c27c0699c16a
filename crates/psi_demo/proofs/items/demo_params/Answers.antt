use Rattle.std.proofs.Common.{subst, sym}
use Rattle.noise_ledger.specs.declared.params.Params.{Params}
use Rattle.noise_ledger.specs.Verdicts.{ArePassed, parameters_of}
use Rattle.psi_demo.proofs.Made.{demo-passed}
use Rattle.psi_demo.proofs.items.demo_params.Goals as goal

pub returns-clause-passed : goal.returns-clause-passed
returns-clause-passed c = subst (λ (q : Params). ArePassed (parameters_of q)) (sym c.of.ensures) demo-passed
