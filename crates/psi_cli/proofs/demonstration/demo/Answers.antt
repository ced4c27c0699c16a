use Rattle.psi_cli.proofs.Shown.{demonstrates}
use Rattle.psi_cli.proofs.demonstration.demo.Goals as goal

pub returns : goal.returns
returns g c =
    demonstrates c.args.number c.args.workers (g.K.Sink.told c.args.output.now) (g.K.Sink.told c.finish.new.output)
    c.demonstrate-made.result c.finish.result c.number.result c.number.ensures
    c.demonstrate-made.ensures.made c.demonstrate-made.ensures.fault c.finish.ensures
