use Rattle.std.proofs.Common.{ap, ◌∙◌}
use Rattle.noise_ledger.specs.Verdicts.{parameters_of}
use Rattle.query_codec.specs.Queries.{query_length}
use Rattle.psi_receiver.proofs.Encryptions.{query-size}
use Rattle.psi_demo.proofs.scripting.query.Goals as goal

pub returns-in-Ok-clause-size : goal.returns-in-Ok-clause-size
returns-in-Ok-clause-size g c =
    query-size (parameters_of c.demo_params.result) c.seed.result c.args.tags.now c.in-Ok.body.items c.in-Ok.ensures.query ∙ ap query_length c.demo_params.ensures.parameters
