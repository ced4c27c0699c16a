use Rattle.std.proofs.Common.{arith}
use Rattle.psi_demo.specs.Scripts.{first_round, put, second_round, third_round}
use Rattle.psi_demo.proofs.Numbering.{length-run, rounds-written}
use Rattle.psi_demo.proofs.ScriptFrames.{length-second}
use Rattle.psi_demo.proofs.scripting.write_script.Goals as goal

pub ask-requires-clause-few : goal.ask-requires-clause-few
ask-requires-clause-few c =
    omega (
      arith,
      c.new-script.ensures.requests,
      c.in_ok-puts.ensures.count,
      length-run (put c.args.number) 0 1 300,
      c.in_ok-go.ensures.requests,
      c.in_ok-write_second_round.ensures.count,
      length-second c.args.number c.args.first.items c.args.second.items,
      c.in_ok-go-2.ensures.requests,
    )

pub returns-clause-text : goal.returns-clause-text
unfolding first_round third_round
returns-clause-text c =
    (rounds-written c.new-script.result c.puts.new.self c.go.new.self c.write_second_round.new.script c.go-2.new.self c.ask.new.self c.go-3.new.self (first_round c.args.number) (second_round c.args.number c.args.first.items c.args.second.items) (third_round c.args.third.items)
    c.new-script.ensures.text c.new-script.ensures.requests c.in_ok-puts.ensures c.in_ok-go.ensures.text c.in_ok-go.ensures.requests c.in_ok-write_second_round.ensures c.in_ok-go-2.ensures.text c.in_ok-go-2.ensures.requests c.in_ok-ask.ensures c.in_ok-go-3.ensures.text).text

pub returns-clause-each : goal.returns-clause-each
unfolding first_round third_round
returns-clause-each c =
    (rounds-written c.new-script.result c.puts.new.self c.go.new.self c.write_second_round.new.script c.go-2.new.self c.ask.new.self c.go-3.new.self (first_round c.args.number) (second_round c.args.number c.args.first.items c.args.second.items) (third_round c.args.third.items)
    c.new-script.ensures.text c.new-script.ensures.requests c.in_ok-puts.ensures c.in_ok-go.ensures.text c.in_ok-go.ensures.requests c.in_ok-write_second_round.ensures c.in_ok-go-2.ensures.text c.in_ok-go-2.ensures.requests c.in_ok-ask.ensures c.in_ok-go-3.ensures.text).each
