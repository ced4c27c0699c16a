use Rattle.std.specs.Prelude.{Some}
use Rattle.std.proofs.Common.{true, refl}
use Rattle.noise_ledger.specs.Verdicts.{parameters_of}
use Rattle.psi_bundle.specs.Versions.{empty_version}
use Rattle.query_pool.proofs.Leaving.{none-served}
use Rattle.psi_serve.specs.Serving.{one_set}
use Rattle.psi_serve.proofs.Begun.{none-serve}
use Rattle.psi_serve.proofs.calls.serve_alone.Goals as goal

pub returns-in-Err-clause-served : goal.returns-in-Err-clause-served
returns-in-Err-clause-served g c =
    let start = empty_version (parameters_of c.args.params.now) in
    none-served (one_set (record { alone = true; start = Some start })) _ _ (none-serve (true) start) refl refl refl
