use Rattle.std.proofs.Common.{refl}
use Rattle.std.proofs.lemmas.Result.{IfErr-weaker}
use Rattle.noise_ledger.specs.Verdicts.{parameters_of}
use Rattle.psi_cli.specs.AskAndOpen.{asking}
use Rattle.psi_cli.specs.Readers.{ReadsNothing}
use Rattle.psi_cli.specs.Reading.{HasNoItems}
use Rattle.psi_cli.specs.Worlds.{given}
use Rattle.psi_cli.proofs.Made.{asks_none}
use Rattle.psi_cli.proofs.asking.ask_items.Goals as goal

pub returns-in-Ok-clause-fault : goal.returns-in-Ok-clause-fault
returns-in-Ok-clause-fault g c = λ files.
    let p = parameters_of c.args.params.now in
    let old = g.S.Source.told c.args.input.now in
    let new = g.S.Source.told c.ask_passed.new.input in
    IfErr-weaker c.ask_passed.result (HasNoItems old new)
    (ReadsNothing (asking p c.args.seed.now c.args.address.session c.args.address.number) (given old files) (given new files))
    (λ s why. asks_none p c.args.seed.now c.args.address.session c.args.address.number old new files s (c.in-Ok.ensures.passed.0 refl) why) c.ask_passed.ensures.fault
