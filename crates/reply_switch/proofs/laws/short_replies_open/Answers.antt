-- Each clause is a lemma.
use Rattle.std.proofs.Common.{ℕ, ◌+◌, List, ap, ◌∙◌, arith}
use Rattle.psi_residue.specs.Slots.{slot_of}
use Rattle.bfv_core.proofs.LedgerTheorem.{evaluation-slots}
use Rattle.reply_switch.proofs.Restoring.{shortened-short}
use Rattle.reply_switch.proofs.ShortPhases.{short_phase-near}
use Rattle.reply_switch.proofs.ReplyOpenings.{carried_reply-opens, evaluated_reply-opens}
use Rattle.reply_switch.proofs.laws.short_replies_open.Goals as goal

pub returns-clause-shortened_are_short : goal.returns-clause-shortened_are_short
returns-clause-shortened_are_short c = shortened-short

pub returns-clause-roundings_are_small : goal.returns-clause-roundings_are_small
returns-clause-roundings_are_small c = short_phase-near

pub returns-clause-carried_replies_open : goal.returns-clause-carried_replies_open
returns-clause-carried_replies_open c = carried_reply-opens

pub returns-clause-replies_open : goal.returns-clause-replies_open
returns-clause-replies_open c = evaluated_reply-opens

pub returns-clause-slots_evaluate : goal.returns-clause-slots_evaluate
returns-clause-slots_evaluate c p key ciphertexts plaintexts factors h j =
    ap (λ (plain : List ℕ). slot_of plain j) (evaluated_reply-opens p key ciphertexts plaintexts factors h)
    ∙ evaluation-slots p.capacity factors plaintexts (λ k lt. (h.polynomials (k + 1) (omega arith)).size) (λ k lt. (h.plain k lt).size) j
