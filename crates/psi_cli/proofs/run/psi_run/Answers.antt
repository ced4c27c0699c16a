use Rattle.std.proofs.Common.{map, string_bytes}
use Rattle.psi_words.specs.Grammar.{judged}
use Rattle.psi_cli.specs.Answered.{IfReads}
use Rattle.psi_cli.specs.Kinds.{Kind, kind_by}
use Rattle.psi_cli.specs.Worlds.{World, world}
use Rattle.psi_cli.proofs.Clauses as clause
use Rattle.psi_cli.proofs.ReaderLaws.{IsLawful, all_lawful}
use Rattle.psi_cli.proofs.run.psi_run.Goals as goal

pub returns : goal.returns
returns g c =
    let k : Kind = kind_by c.args.words.now in
    let law : IfReads k IsLawful = all_lawful (judged (map string_bytes c.args.words.now)) in
    let old : World = world (g.S.Source.told c.args.input.now) (g.F.Files.told c.args.files.now) (g.K.Sink.told c.args.output.now) in
    let new : World = world (g.S.Source.told c.run_words.new.input) (g.F.Files.told c.run_words.new.files) (g.K.Sink.told c.run_words.new.output) in
    record {
      statuses = clause.statuses k old new c.run_words.result c.run_words.ensures.runs;
      runs = c.run_words.ensures.runs;
      words = clause.words k law old new c.run_words.result c.run_words.ensures.runs;
      headline = clause.headline k old new c.run_words.result c.run_words.ensures.runs;
      answered = clause.answered k old new c.run_words.result c.run_words.ensures.runs;
      one_lane = clause.one_lane k old new c.run_words.result c.run_words.ensures.runs;
      served = clause.served k old new c.run_words.result c.run_words.ensures.runs;
      refused = clause.refused k law old new c.run_words.result c.run_words.ensures.runs;
      refused_only = clause.refused_only k old new c.run_words.result c.run_words.ensures.runs;
      refusal = clause.refusal k old new c.run_words.result c.run_words.ensures.runs;
      figures = clause.figures k old new c.run_words.result c.run_words.ensures.runs;
      helped = clause.helped k old new c.run_words.result c.run_words.ensures.runs;
      made = clause.made k law old new c.run_words.result c.run_words.ensures.runs;
      demonstrated = clause.demonstrated k old new c.run_words.result c.run_words.ensures.runs;
      shown = clause.shown k old new c.run_words.result c.run_words.ensures.runs;
      ended = clause.ended k law old new c.run_words.result c.run_words.ensures.runs;
      complete = clause.complete k law old new c.run_words.result c.run_words.ensures.runs;
      bad = clause.bad k law old new c.run_words.result c.run_words.ensures.runs;
      bad_only = clause.bad_only k law old new c.run_words.result c.run_words.ensures.runs;
      bad_soon = clause.bad_soon k law old new c.run_words.result c.run_words.ensures.runs;
      crowded = clause.crowded k law old new c.run_words.result c.run_words.ensures.runs;
      crowded_only = clause.crowded_only k law old new c.run_words.result c.run_words.ensures.runs;
      read = clause.read k law old new c.run_words.result c.run_words.ensures.runs;
      write = clause.write k law old new c.run_words.result c.run_words.ensures.runs;
      flushed = clause.flushed k law old new c.run_words.result c.run_words.ensures.runs;
      no_write_failed = clause.no_write_failed k law old new c.run_words.result c.run_words.ensures.runs;
      no_read_failed = clause.no_read_failed k law old new c.run_words.result c.run_words.ensures.runs;
      unread = clause.unread k law old new c.run_words.result c.run_words.ensures.runs;
      no_reading = clause.no_reading k old new c.run_words.result c.run_words.ensures.runs;
      unwritten = clause.unwritten k law old new c.run_words.result c.run_words.ensures.runs;
    }
