use Rattle.std.proofs.Common.{◌+◌, ◌-◌, ◌∷◌, [], List, ℕ, length, drop, sym, ap, ◌∙◌, arith, None, Some, take_all, length-drop}
use Rattle.psi_cli.specs.ItemTexts.{item_lines}
use Rattle.psi_cli.proofs.ItemLines.{first_line}
use Rattle.psi_cli.proofs.items.first_line.Goals as goal

pub returns-in-Some-clause-lines : goal.returns-in-Some-clause-lines
returns-in-Some-clause-lines c =
    let h = first_line c.args.text.now (Some c.in-Some.end) (sym c.in-Some.is ∙ c.line_end.ensures) c.requires.some in
    let behind = drop (c.in-Some.end + 1) c.args.text.now in
    h.1
    ∙ ap (λ (line : List ℕ). line ∷ item_lines behind) (sym c.line_of.ensures)
    ∙ ap (λ (rest : List ℕ). c.line_of.result.now ∷ item_lines rest) (sym (take_all (length c.args.text.now - (c.in-Some.end + 1)) behind (omega (arith, length-drop (c.in-Some.end + 1) c.args.text.now))))

pub returns-in-None-clause-lines : goal.returns-in-None-clause-lines
returns-in-None-clause-lines c =
    first_line c.args.text.now None (sym c.in-None.is ∙ c.line_end.ensures) c.requires.some
    ∙ ap (λ (line : List ℕ). line ∷ item_lines []) (sym c.line_of-in-None.ensures)
