use Rattle.std.proofs.Common.{◌≡◌, ◌∷◌, [], map, string_bytes, refl, sym, ap, ◌∙◌}
use Rattle.psi_words.specs.Forms.{written_number}
use Rattle.psi_words.specs.Forms.Form.{Number}
use Rattle.psi_words.specs.Grammar.{demo_row}
use Rattle.psi_words.specs.Leads.{shown}
use Rattle.psi_words.proofs.Behind.{AreRead, AreRead-next, AreRead-nil, gives-Ok, gives-fault_next, hands_on}
use Rattle.psi_words.proofs.Elements.{two_are}
use Rattle.psi_words.proofs.reading.demo.Goals as goal
use Rattle.psi_words.proofs.reading.demo.Goals.{After-deref-2, In_ok-number}

-- the words behind the command word
words : (c : After-deref-2) → map string_bytes c.args.behind.now ≡ c.deref.result.now ∷ c.deref-2.result.now ∷ []
words c =
    ap (map string_bytes) (two_are c.args.behind.now _ _ c.in-len2.len_at_least c.in-len2.len_below c.number-item.is c.workers-item.is)
    ∙ rw (c.deref.ensures, c.deref-2.ensures) refl

-- the number was read
after_number : (c : In_ok-number) → AreRead (shown c.args.lead.now) (Number 0 18446744073709551615 ∷ []) (c.deref.result.now ∷ [])
    × (c.in_ok-number.number ≡ written_number c.deref.result.now)
after_number c =
    AreRead-next (shown c.args.lead.now) [] [] (Number 0 18446744073709551615) c.number.result c.deref.result.now _ _ (AreRead-nil (shown c.args.lead.now) c.requires) c.number.ensures
    (sym c.read_number.ensures.value ∙ c.in_ok-number.was)

pub returns-in_err-workers-clause-judged : goal.returns-in_err-workers-clause-judged
returns-in_err-workers-clause-judged c =
    let read = after_number (goal.at.returns-in_err-workers-clause-judged c).In_ok-number in
    rw (words (goal.at.returns-in_err-workers-clause-judged c).After-deref-2) (
    hands_on c.from_residual-in_err-workers.result c.in_err-workers.field-0.0 c.from_residual-in_err-workers.ensures.1
    ∙ sym (gives-fault_next (shown c.args.lead.now) (Number 0 18446744073709551615 ∷ []) [] _ [] (Number 1 8) c.number-2.result c.deref-2.result.now _ _
    c.in_err-workers.field-0.0 read.0 c.number-2.ensures (sym c.read_number-2.ensures.value ∙ c.in_err-workers.was)))

pub returns-clause-judged : goal.returns-clause-judged
returns-clause-judged c =
    let number = after_number (goal.at.returns-clause-judged c).In_ok-number in
    let workers = AreRead-next (shown c.args.lead.now) (Number 0 18446744073709551615 ∷ []) _ (Number 1 8) c.number-2.result c.deref-2.result.now _ _ number.0 c.number-2.ensures
    (sym c.read_number-2.ensures.value ∙ c.in_ok-workers.was) in
    rw (words (goal.at.returns-clause-judged c).After-deref-2, number.1, workers.1) (sym (gives-Ok (shown c.args.lead.now) demo_row.forms _ _ workers.0))
