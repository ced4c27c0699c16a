use Rattle.std.proofs.Common.{◌≡◌, [], length, sym, ◌∙◌}
use Rattle.std.proofs.lemmas.Bool.{eqb-true}
use Rattle.psi_words.specs.Grammar.{help_row}
use Rattle.psi_words.specs.Leads.{shown}
use Rattle.psi_words.proofs.Behind.{AreRead-nil, gives-Ok}
use Rattle.psi_words.proofs.Elements.{none_are}
use Rattle.psi_words.proofs.reading.help.Goals as goal

pub returns-then-is_empty-clause-judged : goal.returns-then-is_empty-clause-judged
returns-then-is_empty-clause-judged c =
    let none : length c.args.behind.now ≡ 0 = eqb-true _ 0 (sym c.is_empty.ensures ∙ c.if-is_empty.true) in
    rw (none_are c.args.behind.now none) (sym (gives-Ok (shown c.args.lead.now) help_row.forms [] _ (AreRead-nil (shown c.args.lead.now) c.requires)))
