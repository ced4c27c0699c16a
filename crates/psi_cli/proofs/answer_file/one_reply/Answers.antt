use Rattle.std.proofs.Common.{[], ◌∙◌}
use Rattle.psi_cli.proofs.OneReply.{found_one, met_fault, no_other}
use Rattle.psi_cli.proofs.answer_file.one_reply.Goals as goal

pub returns-in-Ok-clause-found : goal.returns-in-Ok-clause-found
returns-in-Ok-clause-found c =
    found_one c.feed.new.self c.args.bytes.now c.only_frame.result (c.feed.ensures.table ∙ c.in_ok-feed.ensures.replies) (c.in-Ok.ensures.fed [] [] c.in_ok-feed.ensures.fed) c.in-Ok.ensures.ok c.only_frame.ensures.found

pub returns-in-Ok-clause-none : goal.returns-in-Ok-clause-none
returns-in-Ok-clause-none c =
    no_other c.feed.new.self c.args.bytes.now c.only_frame.result (c.feed.ensures.table ∙ c.in_ok-feed.ensures.replies) (c.in-Ok.ensures.fed [] [] c.in_ok-feed.ensures.fed) c.only_frame.ensures.none

pub returns-in_ok-only_memory-in-Err-clause-none : goal.returns-in_ok-only_memory-in-Err-clause-none
returns-in_ok-only_memory-in-Err-clause-none c = λ _.
    met_fault c.feed.new.self c.args.bytes.now c.in-Err.fault (c.feed.ensures.table ∙ c.in_ok-feed.ensures.replies)
    (λ fault met. c.in-Err.ensures.fed_faulty fault met [] [] c.in_ok-feed.ensures.fed) c.in_ok-only_memory-in-Err.ensures c.in-Err.ensures.err
