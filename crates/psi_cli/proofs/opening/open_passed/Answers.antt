use Rattle.std.proofs.Common.{List, ℕ, map, ap, refl, subst}
use Rattle.std.specs.Result.{IfErr}
use Rattle.std.proofs.lemmas.Result.{IfErr-weaker}
use Rattle.noise_ledger.specs.Verdicts.{parameters_of}
use Rattle.psi_cli.specs.AskAndOpen.{opening}
use Rattle.psi_cli.specs.Inner.Opening.{IsUnopened}
use Rattle.psi_cli.specs.Readers.{ReadsNothing}
use Rattle.psi_cli.specs.Worlds.{Given, given}
use Rattle.psi_cli.proofs.Made.{handed, no_file, opens_none, unopened}
use Rattle.psi_cli.proofs.opening.open_passed.Goals as goal

pub returns-in_err-items-clause-fault : goal.returns-in_err-items-clause-fault
returns-in_err-items-clause-fault g c =
    let p = parameters_of c.args.params.now in
    let old : Given = given (g.S.Source.told c.args.input.now) (g.F.Files.told c.args.files.now) in
    let new : Given = given (g.S.Source.told c.read_items.new.input) (g.F.Files.told c.args.files.now) in
    handed c.from_residual.result c.in_err-items.field-0.0 (ReadsNothing (opening p c.args.seed.now c.args.name.now) old new) c.from_residual.ensures.1
    (opens_none p c.args.seed.now c.args.name.now old new c.requires.passed c.in_err-items.field-0.0 refl c.in_err-items.ensures.fault)

pub returns-in_err-body-clause-fault : goal.returns-in_err-body-clause-fault
returns-in_err-body-clause-fault g c =
    let p = parameters_of c.args.params.now in
    let old : Given = given (g.S.Source.told c.args.input.now) (g.F.Files.told c.args.files.now) in
    let new : Given = given (g.S.Source.told c.read_items.new.input) (g.F.Files.told c.read_answer_file.new.files) in
    let e = c.in_ok-items.ensures in
    handed c.from_residual-in_err-body.result c.in_err-body.field-0.0 (ReadsNothing (opening p c.args.seed.now c.args.name.now) old new) c.from_residual-in_err-body.ensures.1
    (no_file p c.args.seed.now c.args.name.now old new c.requires.passed (record { taken = e.text; ended = e.ended; no_read_failed = e.no_read_failed }) e.within
    c.in_err-body.field-0.0 c.in_err-body.ensures.fault)

pub returns-clause-fault : goal.returns-clause-fault
returns-clause-fault g c =
    let p = parameters_of c.args.params.now in
    let old : Given = given (g.S.Source.told c.args.input.now) (g.F.Files.told c.args.files.now) in
    let new : Given = given (g.S.Source.told c.read_items.new.input) (g.F.Files.told c.read_answer_file.new.files) in
    let items = map (λ item. item.items) c.in_ok-items.items.items in
    let e = c.in_ok-items.ensures in
    IfErr-weaker c.open.result (IsUnopened p items c.in_ok-body.body) (ReadsNothing (opening p c.args.seed.now c.args.name.now) old new)
    (λ s why. unopened p c.args.seed.now c.args.name.now old new c.requires.passed (record { taken = e.text; ended = e.ended; no_read_failed = e.no_read_failed }) e.within
    items c.in_ok-body.body s c.in_ok-body.ensures.no_file_failed e.items c.in_ok-body.ensures.answer why)
    (subst (λ (body : List ℕ). IfErr c.open.result (IsUnopened p items body)) (c.items.ensures) (subst (λ (xs : List (List ℕ)). IfErr c.open.result (IsUnopened p xs c.items.result.now)) (ap (map (λ item. item.items)) c.deref.ensures.value) c.open.ensures.fault))
