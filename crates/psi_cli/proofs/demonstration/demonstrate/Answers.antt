use Rattle.std.proofs.Common.{ℕ, List, refl, subst}
use Rattle.psi_demo.specs.Summaries.{ForTally}
use Rattle.psi_demo.specs.Texts.{IsSummary}
use Rattle.psi_cli.proofs.Shown.{is_demonstration}
use Rattle.psi_cli.proofs.demonstration.demonstrate.Goals as goal

pub returns-clause-made : goal.returns-clause-made
returns-clause-made g c = (
  refl,
  is_demonstration c.args.number c.args.workers c.in_ok-script.script.items c.in_ok-replies.replies.written c.in_ok-text.text.items c.in_ok-script.ensures.script c.in_ok-replies.ensures.served
      (subst (λ (bytes : List ℕ). ForTally bytes (λ tally. IsSummary c.args.number tally c.in_ok-text.text.items)) c.bytes.ensures c.in_ok-text.ensures.text),
)
