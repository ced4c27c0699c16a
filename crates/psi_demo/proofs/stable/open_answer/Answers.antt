use Rattle.std.proofs.Common.{sym, ap, subst, ◌∙◌}
use Rattle.psi_residue.specs.Parameters.{Parameters}
use Rattle.query_codec.specs.Replies.{reply_fault}
use Rattle.psi_receiver.specs.Faults.{HavePlacement}
use Rattle.psi_demo.proofs.stable.open_answer.Goals as goal

pub returns-in-Err-Codec-clause-fault : goal.returns-in-Err-Codec-clause-fault
returns-in-Err-Codec-clause-fault g c =
    let fault = rw c.in-Err-Codec.field-0-is at c.in-Err-Codec.ensures.fault in
    let params = c.demo_params.ensures.parameters in
    (subst (λ (p : Parameters). HavePlacement p.rows c.args.tags.now) params fault.1, ap (λ (p : Parameters). reply_fault p c.args.body.now) (sym params) ∙ fault.2)
