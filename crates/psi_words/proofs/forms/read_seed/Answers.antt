use Rattle.std.proofs.Common.{sym, ◌∙◌}
use Rattle.psi_words.proofs.Seeds.{seed-Err, seed-Ok}
use Rattle.psi_words.proofs.forms.read_seed.Goals as goal

pub returns-in-Ok : goal.returns-in-Ok
returns-in-Ok c = seed-Ok c.args.at c.args.word.now c.in-Ok.seed (sym c.from_hex.ensures ∙ c.in-Ok.is)

pub returns-in-Err : goal.returns-in-Err
returns-in-Err c = seed-Err c.args.at c.args.word.now c.in-Err.field-0 (sym c.from_hex.ensures ∙ c.in-Err.is)
