use Rattle.std.proofs.Common.{refl}
use Rattle.noise_ledger.specs.Verdicts.{parameters_of}
use Rattle.psi_cli.specs.AskAndOpen.{asking, opening}
use Rattle.psi_cli.specs.Worlds.{World, world}
use Rattle.psi_cli.proofs.Commands.{ask_runs, on_ok, open_runs, params_runs, reader_runs}
use Rattle.psi_cli.proofs.plain.run_command.Goals as goal

pub returns-in-Params : goal.returns-in-Params
returns-in-Params g c =
    let old : World = world (g.S.Source.told c.args.input.now) (g.F.Files.told c.args.files.now) (g.K.Sink.told c.args.output.now) in
    let new : World = world (g.S.Source.told c.args.input.now) (g.F.Files.told c.args.files.now) (g.K.Sink.told c.finish.new.output) in
    record {
      runs = params_runs c.args.command c.in-Params.rows c.in-Params.capacity c.in-Params.units c.in-Params.drop c.in-Params.counted
          (parameters_of c.word_parameters-params-in-Params.result) old new c.judge.result c.finish.result c.number-in-Params.result
          c.in-Params.is c.word_parameters-params-in-Params.ensures c.number-in-Params.ensures c.judge.ensures.made c.judge.ensures.fault refl c.finish.ensures;
    }

pub returns-in-Ask : goal.returns-in-Ask
returns-in-Ask g c =
    let p = parameters_of c.word_parameters-params-in-Ask.result in
    let old : World = world (g.S.Source.told c.args.input.now) (g.F.Files.told c.args.files.now) (g.K.Sink.told c.args.output.now) in
    let new : World = world (g.S.Source.told c.ask_items-made.new.input) (g.F.Files.told c.args.files.now) (g.K.Sink.told c.finish-in-Ask.new.output) in
    let made = c.ask_items-made in
    record {
      runs = ask_runs c.args.command c.in-Ask.rows c.in-Ask.capacity c.in-Ask.units c.in-Ask.drop c.in-Ask.counted c.in-Ask.seed c.in-Ask.session c.in-Ask.number
          p old new c.number-in-Ask.result c.in-Ask.is c.word_parameters-params-in-Ask.ensures
          (reader_runs (asking p c.in-Ask.seed c.in-Ask.session c.in-Ask.number) old new made.result c.finish-in-Ask.result c.number-in-Ask.result c.number-in-Ask.ensures
          made.ensures.passed made.ensures.made made.ensures.ended made.ensures.no_read_failed (on_ok made.result refl)
          (made.ensures.fault (g.F.Files.told c.args.files.now)) (λ _. refl) c.finish-in-Ask.ensures);
    }

pub returns-in-Open : goal.returns-in-Open
returns-in-Open g c =
    let p = parameters_of c.word_parameters-params-in-Open.result in
    let old : World = world (g.S.Source.told c.args.input.now) (g.F.Files.told c.args.files.now) (g.K.Sink.told c.args.output.now) in
    let new : World = world (g.S.Source.told c.open_file-made.new.input) (g.F.Files.told c.open_file-made.new.files) (g.K.Sink.told c.finish-in-Open.new.output) in
    let made = c.open_file-made in
    record {
      runs = open_runs c.args.command c.in-Open.rows c.in-Open.capacity c.in-Open.units c.in-Open.drop c.in-Open.counted c.in-Open.seed c.in-Open.file c.text.result.now
          p old new c.number-in-Open.result c.in-Open.is c.text.ensures c.word_parameters-params-in-Open.ensures
          (reader_runs (opening p c.in-Open.seed c.text.result.now) old new made.result c.finish-in-Open.result c.number-in-Open.result c.number-in-Open.ensures
          made.ensures.passed made.ensures.made made.ensures.ended made.ensures.no_read_failed made.ensures.no_file_failed
          made.ensures.fault (λ none. absurd (let e = none in cc)) c.finish-in-Open.ensures);
    }
