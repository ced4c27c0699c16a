use Rattle.std.proofs.Common.{◌≡◌, ◌∷◌, [], map, string_bytes, refl, sym, ap, ◌∙◌}
use Rattle.psi_words.specs.Grammar.{params_row, sizes}
use Rattle.psi_words.specs.Leads.{shown, sizes_of}
use Rattle.psi_words.proofs.Behind.{AreRead, AreRead-given, gives-Ok, gives-fault, hands_on}
use Rattle.psi_words.proofs.Elements.{three_are}
use Rattle.psi_words.proofs.reading.params.Goals as goal
use Rattle.psi_words.proofs.reading.params.Goals.{After-read_sizes, In_ok-sizes}

-- the words behind the command word
words : (c : After-read_sizes) → map string_bytes c.args.behind.now ≡ c.deref.result.now ∷ c.deref-2.result.now ∷ c.deref-3.result.now ∷ []
words c =
    ap (map string_bytes) (three_are c.args.behind.now _ _ _ c.in-len3.len_at_least c.in-len3.len_below c.rows-item.is c.capacity-item.is c.units-item.is)
    ∙ rw (c.deref.ensures, c.deref-2.ensures, c.deref-3.ensures) refl

pub returns-in_err-sizes-clause-judged : goal.returns-in_err-sizes-clause-judged
returns-in_err-sizes-clause-judged c =
    rw (words (goal.at.returns-in_err-sizes-clause-judged c).After-read_sizes) (
    hands_on c.from_residual.result c.in_err-sizes.field-0.0 c.from_residual.ensures.1
    ∙ sym (gives-fault (shown c.args.lead.now) sizes [] (c.deref.result.now ∷ c.deref-2.result.now ∷ c.deref-3.result.now ∷ []) [] _ _
    c.in_err-sizes.field-0.0 (sym c.read_sizes.ensures ∙ c.in_err-sizes.was)))

-- the sizes were read
after_sizes : (c : In_ok-sizes) → AreRead (shown c.args.lead.now) sizes (c.deref.result.now ∷ c.deref-2.result.now ∷ c.deref-3.result.now ∷ [])
    × (c.in_ok-sizes.sizes ≡ sizes_of (shown c.args.lead.now) c.deref.result.now c.deref-2.result.now c.deref-3.result.now)
after_sizes c = AreRead-given (shown c.args.lead.now) sizes _ _ _ refl (sym c.read_sizes.ensures ∙ c.in_ok-sizes.was)

pub returns-clause-judged : goal.returns-clause-judged
returns-clause-judged c =
    let read = after_sizes c in
    rw (words (goal.at.returns-clause-judged c).After-read_sizes, read.1) (sym (gives-Ok (shown c.args.lead.now) params_row.forms _ _ read.0))
