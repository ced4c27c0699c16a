-- Each clause is a lemma.
use Rattle.std.proofs.Common.{ℕ, ◌+◌, List, ap, ◌∙◌, arith}
use Rattle.psi_residue.specs.Slots.{slot_of}
use Rattle.bfv_core.proofs.LedgerTheorem.{evaluation-carries, carried-opens, evaluation-opens, evaluation-slots, evaluation-carry, carry-small, carry-rest}
use Rattle.bfv_core.proofs.laws.evaluations_open.Goals as goal

pub returns-clause-carried : goal.returns-clause-carried
returns-clause-carried c = evaluation-carries

pub returns-clause-carried_opens : goal.returns-clause-carried_opens
returns-clause-carried_opens c = carried-opens

pub returns-clause-opened : goal.returns-clause-opened
returns-clause-opened c = evaluation-opens

pub returns-clause-slots : goal.returns-clause-slots
returns-clause-slots c p key ciphertexts plaintexts factors h j =
    ap (λ (plain : List ℕ). slot_of plain j) (evaluation-opens p key ciphertexts plaintexts factors h)
    ∙ evaluation-slots p.capacity factors plaintexts (λ k lt. (h.polynomials (k + 1) (omega arith)).size) (λ k lt. (h.plain k lt).size) j

pub returns-clause-carries_exist : goal.returns-clause-carries_exist
returns-clause-carries_exist c p key ciphertexts plaintexts factors h i lt =
    let carry = evaluation-carry p key ciphertexts plaintexts factors h i (omega arith) in
    record { up = carry.up; down = carry.down; whole = carry.exact }

pub returns-clause-carries_are_small : goal.returns-clause-carries_are_small
returns-clause-carries_are_small c p key ciphertexts plaintexts factors h i lt up down e =
    let both = carry-small p key ciphertexts plaintexts factors h i (omega arith) up down e in
    record { above = both.0; below = both.1 }

pub returns-clause-carries_leave_rests : goal.returns-clause-carries_leave_rests
returns-clause-carries_leave_rests c p key ciphertexts plaintexts factors h i lt up down e = carry-rest p.capacity factors plaintexts i up down e
