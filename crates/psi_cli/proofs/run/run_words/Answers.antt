use Rattle.std.proofs.Common.{refl}
use Rattle.psi_cli.specs.Kinds.{kind_by}
use Rattle.psi_cli.specs.Worlds.{World, world}
use Rattle.psi_cli.proofs.AllRuns.{other_runs, threads_run}
use Rattle.psi_cli.proofs.run.run_words.Goals as goal

pub returns-in-Some : goal.returns-in-Some
returns-in-Some g c =
    let old : World = world (g.S.Source.told c.args.input.now) (g.F.Files.told c.args.files.now) (g.K.Sink.told c.args.output.now) in
    let new : World = world (g.S.Source.told c.run_threads.new.input) (g.F.Files.told c.args.files.now) (g.K.Sink.told c.run_threads.new.output) in
    record { runs = threads_run (kind_by c.args.words.now) c.in-Some.asked old new c.run_threads.result c.in-Some.ensures.asked c.run_threads.ensures refl }

pub returns-in-None : goal.returns-in-None
returns-in-None g c =
    let old : World = world (g.S.Source.told c.args.input.now) (g.F.Files.told c.args.files.now) (g.K.Sink.told c.args.output.now) in
    let new : World = world (g.S.Source.told c.run_plain.new.input) (g.F.Files.told c.run_plain.new.files) (g.K.Sink.told c.run_plain.new.output) in
    record { runs = other_runs (kind_by c.args.words.now) old new c.run_plain.result (c.in-None.ensures.other refl) c.run_plain.ensures.runs }
