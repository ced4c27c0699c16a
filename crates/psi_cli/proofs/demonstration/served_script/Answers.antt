use Rattle.std.proofs.Common.{nat_eq, Some, refl, ap, subst}
use Rattle.psi_residue.specs.Parameters.{Parameters}
use Rattle.psi_outside.specs.Ends.{Ends, ends}
use Rattle.psi_outside.specs.InMemory.{sink_told, source_told}
use Rattle.psi_bundle.specs.Versions.{empty_version}
use Rattle.psi_serve.specs.Serving.{HasServed}
use Rattle.psi_cli.proofs.Shown.{serves_frames}
use Rattle.psi_cli.proofs.demonstration.served_script.Goals as goal

pub returns-in-0-clause-served : goal.returns-in-0-clause-served
returns-in-0-clause-served g c =
    let old : Ends = ends (source_told c.open-source.result) (sink_told c.in_ok-sink.sink) in
    let new : Ends = ends (source_told c.serve.new.source) (sink_told c.serve.new.sink) in
    λ frames whole.
    serves_frames c.args.workers c.args.script.items c.open-source.result.left c.serve.new.sink.written frames old new c.serve.result
    refl c.open-source.ensures.left (ap Some c.in_ok-sink.ensures.written) refl
    (subst (λ (p : Parameters). HasServed (empty_version p) (nat_eq c.args.workers 1) old new c.serve.result) c.demo_params-params.ensures.parameters c.serve.ensures.served) c.in-0.is whole
