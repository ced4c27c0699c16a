use Rattle.std.proofs.Common.{map, string_bytes}
use Rattle.psi_cli.specs.Worlds.{World, world}
use Rattle.psi_cli.proofs.Commands.{memory_runs}
use Rattle.psi_cli.proofs.plain.run_words.Goals as goal

pub returns-in-Err-NoMemory : goal.returns-in-Err-NoMemory
returns-in-Err-NoMemory g c =
    let old : World = world (g.S.Source.told c.args.input.now) (g.F.Files.told c.args.files.now) (g.K.Sink.told c.args.output.now) in
    record {
      runs = memory_runs (map string_bytes c.args.words.now) old c.number.result c.in-Err-NoMemory.field-0
          c.in-Err-NoMemory.field-0-is c.in-Err-NoMemory.ensures.fault c.number.ensures;
    }
