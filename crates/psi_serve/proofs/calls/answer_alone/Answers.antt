use Rattle.std.proofs.lemmas.Result.{IfOk-weaker}
use Rattle.noise_ledger.specs.Verdicts.{parameters_of}
use Rattle.psi_serve.proofs.LaneRounds.{answered-alone}
use Rattle.psi_serve.proofs.calls.answer_alone.Goals as goal

pub returns : goal.returns
returns g c =
    let e = c.round_alone.ensures in
    answered-alone (parameters_of c.args.params.now) c.args.book c.args.requests.items c.round_alone.result (λ round. round.book) (λ round. round.replies.items) c.requires.asked
    e.one_each e.replies e.entries e.version e.parameters e.start e.fits
