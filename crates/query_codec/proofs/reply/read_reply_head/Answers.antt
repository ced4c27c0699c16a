use Rattle.std.proofs.Common.{◌∙◌}
use Rattle.noise_ledger.specs.Verdicts.{parameters_of}
use Rattle.query_codec.proofs.ReplyBodies.{reply_counts-is}
use Rattle.query_codec.proofs.reply.read_reply_head.Goals as goal

pub returns-clause-counts : goal.returns-clause-counts
returns-clause-counts c = c.of.ensures ∙ c.in_ok-counts.ensures ∙ reply_counts-is (parameters_of c.args.params.now) c.args.body.now
