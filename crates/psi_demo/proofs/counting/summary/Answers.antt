use Rattle.std.proofs.Common.{◌≡◌, List, string_bytes, subst, ◌∙◌}
use Rattle.psi_frames.specs.declared.reply.Reply.{Reply}
use Rattle.psi_demo.specs.Faults.{IsSumFault}
use Rattle.psi_demo.specs.Opening.{IsBodiesFault}
use Rattle.psi_demo.specs.Summaries.{AreStable, bodies_of, tally_of}
use Rattle.psi_demo.specs.Texts.{summary_text}
use Rattle.psi_demo.proofs.Made.{handed}
use Rattle.psi_demo.proofs.Reading.{read-sent}
use Rattle.psi_demo.proofs.Summed.{opened-fault, summed}
use Rattle.psi_demo.proofs.counting.summary.Goals as goal

pub returns-in_err-stable-clause-fault : goal.returns-in_err-stable-clause-fault
returns-in_err-stable-clause-fault g c =
    let number = c.args.number in
    let read = c.in_ok-told.ensures.read in
    let fault = c.in_err-stable.field-0.0 in
    handed c.from_residual-in_err-stable.result fault (IsSumFault number c.args.replies.now) c.from_residual-in_err-stable.ensures.1
    (opened-fault number c.args.replies.now c.in_ok-told.told.items read.0 fault (λ i. (c.type_inv.replies i).fits) (read-sent c.args.replies.now read.0 read.1) read.2
    (subst (λ (rs : List Reply). IsBodiesFault number (bodies_of rs) fault) c.deref.ensures.value c.in_err-stable.ensures.fault))

pub returns-clause-text : goal.returns-clause-text
returns-clause-text g c =
    let number = c.args.number in
    let told = c.in_ok-told.told.items in
    let read = c.in_ok-told.ensures.read in
    let stable = c.in_ok-stable.stable.items in
    let lines : string_bytes c.in_ok-summary_text.field-0 ≡ summary_text number (tally_of told) stable =
    c.in_ok-summary_text.ensures ∙ (λ i. summary_text number (tally_of (c.deref-2.ensures.value i)) (c.deref-3.ensures.value i)) in
    summed number c.args.replies.now told read.0 stable (string_bytes c.in_ok-summary_text.field-0) (λ i. (c.type_inv.replies i).fits) (read-sent c.args.replies.now read.0 read.1) read.2
    (subst (λ (rs : List Reply). AreStable number (bodies_of rs) stable) c.deref.ensures.value c.in_ok-stable.ensures.stable) lines
