use Rattle.std.proofs.lemmas.Result.{on_ok_weaker}
use Rattle.psi_demo.proofs.Numbering.{second-written}
use Rattle.psi_demo.proofs.scripting.write_second_round.Goals as goal

pub returns : goal.returns
returns c =
    on_ok_weaker c.ask-2.result
    (λ last. second-written c.args.script.now c.ask.new.self c.puts.new.self c.drops.new.self c.pack.new.self c.ask-2.new.self c.args.number c.args.first.items c.args.second.items c.in_ok-ask.ensures c.in_ok-puts.ensures c.in_ok-drops.ensures c.in_ok-pack.ensures last)
    c.ask-2.ensures
