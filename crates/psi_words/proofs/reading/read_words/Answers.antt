use Rattle.std.proofs.Common.{◌≡◌, drop, map, string_bytes, sym, ap, ◌∙◌}
use Rattle.psi_words.specs.Grammar.{judged}
use Rattle.psi_words.specs.Leads.{judged_named, shown}
use Rattle.psi_words.proofs.Lines.{judged-lead, parts-texts}
use Rattle.psi_words.proofs.reading.read_words.Goals as goal
use Rattle.psi_words.proofs.reading.read_words.Goals.{After-named}

-- the line by its parts
parts : (c : After-named) → judged (map string_bytes c.args.words.now) ≡ judged_named (shown c.of-lead.result) c.as_str.result.now (map string_bytes c.in-Some.behind.now)
parts c =
    let e = parts-texts string_bytes c.args.words.now c.in-Some.behind.now c.in-Some.word.now c.len.result c.in-Some.ensures.cases.0 in
    rw c.as_str.ensures.value (
    judged-lead (shown c.of-lead.result) (map string_bytes c.args.words.now) (map string_bytes c.in-Some.behind.now)
    (string_bytes c.in-Some.word.now) c.of-lead.ensures.lead (ap (λ n. drop n (map string_bytes c.args.words.now)) (sym c.len.ensures) ∙ e))

pub returns-in-Some-clause-command : goal.returns-in-Some-clause-command
returns-in-Some-clause-command c = rw (parts c) c.named.ensures.command

pub returns-in-Some-clause-fault : goal.returns-in-Some-clause-fault
returns-in-Some-clause-fault c = rw (parts c) c.named.ensures.fault
