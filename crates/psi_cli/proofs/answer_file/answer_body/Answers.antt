use Rattle.std.proofs.Common.{sym, ◌∙◌}
use Rattle.psi_cli.proofs.OneReply.{no_answer}
use Rattle.psi_cli.proofs.answer_file.answer_body.Goals as goal

pub returns-in_ok-read_answer-in-Some-clause-none : goal.returns-in_ok-read_answer-in-Some-clause-none
returns-in_ok-read_answer-in-Some-clause-none c = λ none body is.
    no_answer c.args.file.now c.in-Some.frame c.in_ok-read_answer-in-Some.field-0 body (rw c.in-Some.is at c.in_ok-frame.ensures.found) c.in_ok-read_answer-in-Some.ensures.only (sym c.body_of.ensures ∙ none) is
