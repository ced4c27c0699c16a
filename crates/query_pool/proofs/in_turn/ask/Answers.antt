use Rattle.noise_ledger.specs.Verdicts.{parameters_of}
use Rattle.psi_bundle.specs.declared.history.Answer.TheVariants.{Seen}
use Rattle.query_pool.proofs.Telling.{body-there, rows-shown}
use Rattle.query_pool.proofs.in_turn.ask.Goals as goal

pub evaluate-requires-clause-set : goal.evaluate-requires-clause-set
evaluate-requires-clause-set g c _ _ =
    let v = c.args.seat.now.knows in
    let w = c.ask-turn.new.seat.knows in
    let went = c.ask-turn.ensures.went in
    let z = went.0 in
    rows-shown z w c.in-Ok.placed.place c.in-Ok.placed.answer (c.in-Ok.ensures.showed z went.1) (parameters_of c.args.params.now) v Seen (c.requires.under z went.1) went.2.history c.in-Ok.ensures.entered

pub returns-in_ok-body-in-Ok-clause-evaluated : goal.returns-in_ok-body-in-Ok-clause-evaluated
returns-in_ok-body-in-Ok-clause-evaluated g c = λ z is.
    body-there z c.ask-turn.new.seat.knows c.in-Ok.placed.place c.in-Ok.placed.answer (c.in-Ok.ensures.showed z is) (parameters_of c.args.params.now) c.args.query.items c.in_ok-body-in-Ok.body c.of_ask.result
    (c.requires.under z is) c.in_ok-body-in-Ok.ensures.body c.of_ask.ensures.place c.of_ask.ensures.body
