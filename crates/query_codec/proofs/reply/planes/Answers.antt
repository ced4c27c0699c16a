use Rattle.noise_ledger.specs.Verdicts.{parameters_of}
use Rattle.query_codec.proofs.ReplyBodies.{planes-is}
use Rattle.query_codec.proofs.reply.planes.Goals as goal

pub returns-clause-number : goal.returns-clause-number
returns-clause-number c = planes-is (parameters_of c.args.params.now) c.args.body.now c.bundles.result c.bundles.ensures.sum
