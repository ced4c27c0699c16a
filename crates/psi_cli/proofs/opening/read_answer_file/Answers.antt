use Rattle.psi_cli.proofs.Made.{file_without}
use Rattle.psi_cli.proofs.opening.read_answer_file.Goals as goal

pub returns-in-Ok-clause-fault : goal.returns-in-Ok-clause-fault
returns-in-Ok-clause-fault g c = (
  file_without (g.F.Files.told c.args.files.now).files c.args.name.now c.in-Ok.file.items c.deref.result.now c.in_ok-body-in-Ok.field-0 c.in-Ok.ensures.bytes c.deref.ensures.value c.in_ok-body-in-Ok.ensures.none c.in-None.is,
  c.in-Ok.ensures.cause.kept,
)
