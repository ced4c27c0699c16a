use Rattle.std.proofs.Common.{map, string_bytes}
use Rattle.psi_words.specs.Grammar.{judged}
use Rattle.psi_cli.specs.Answered.{IfReads}
use Rattle.psi_cli.specs.Kinds.{Kind, kind_by}
use Rattle.psi_cli.specs.Worlds.{World, world}
use Rattle.psi_cli.proofs.Clauses as clause
use Rattle.psi_cli.proofs.ReaderLaws.{IsLawful, all_lawful}
use Rattle.psi_cli.proofs.plain.run_plain.Goals as goal

pub returns : goal.returns
returns g c =
    let k : Kind = kind_by c.args.words.now in
    let law : IfReads k IsLawful = all_lawful (judged (map string_bytes c.args.words.now)) in
    let old : World = world (g.S.Source.told c.args.input.now) (g.F.Files.told c.args.files.now) (g.K.Sink.told c.args.output.now) in
    let new : World = world (g.S.Source.told c.run_words.new.input) (g.F.Files.told c.run_words.new.files) (g.K.Sink.told c.run_words.new.output) in
    record {
      statuses = clause.statuses_plain k old new c.run_words.result c.run_words.ensures.runs;
      words = clause.words_plain k law old new c.run_words.result c.run_words.ensures.runs;
      runs = c.run_words.ensures.runs;
    }
