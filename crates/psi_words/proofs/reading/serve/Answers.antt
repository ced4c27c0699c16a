use Rattle.std.proofs.Common.{◌≡◌, ◌∷◌, [], ◌++◌, map, string_bytes, refl, sym, ap, ◌∙◌}
use Rattle.psi_words.specs.Forms.{written_number}
use Rattle.psi_words.specs.Forms.Form.{Number}
use Rattle.psi_words.specs.Grammar.{serve_row, sizes}
use Rattle.psi_words.specs.Leads.{shown, sizes_of}
use Rattle.psi_words.proofs.Behind.{AreRead, AreRead-given, AreRead-next, gives-Ok, gives-fault, gives-fault_next, hands_on}
use Rattle.psi_words.proofs.Elements.{five_are}
use Rattle.psi_words.proofs.reading.serve.Goals as goal
use Rattle.psi_words.proofs.reading.serve.Goals.{After-read_sizes, In_ok-sizes, In_ok-workers, In_ok-builders}

-- the words behind the command word
words : (c : After-read_sizes) → map string_bytes c.args.behind.now
    ≡ c.deref.result.now ∷ c.deref-2.result.now ∷ c.deref-3.result.now ∷ string_bytes c.workers-item.result ∷ string_bytes c.builders-item.result ∷ []
words c =
    ap (map string_bytes) (five_are c.args.behind.now _ _ _ _ _ c.in-len5.len_at_least c.in-len5.len_below c.rows-item.is c.capacity-item.is c.units-item.is c.workers-item.is c.builders-item.is)
    ∙ rw (c.deref.ensures, c.deref-2.ensures, c.deref-3.ensures) refl

pub returns-in_err-sizes-clause-judged : goal.returns-in_err-sizes-clause-judged
returns-in_err-sizes-clause-judged c =
    rw (words (goal.at.returns-in_err-sizes-clause-judged c).After-read_sizes) (
    hands_on c.from_residual.result c.in_err-sizes.field-0.0 c.from_residual.ensures.1
    ∙ sym (gives-fault (shown c.args.lead.now) sizes (Number 1 8 ∷ Number 0 4 ∷ []) (c.deref.result.now ∷ c.deref-2.result.now ∷ c.deref-3.result.now ∷ [])
    (string_bytes c.workers-item.result ∷ string_bytes c.builders-item.result ∷ []) _ _ c.in_err-sizes.field-0.0 (sym c.read_sizes.ensures ∙ c.in_err-sizes.was)))

-- the sizes were read
after_sizes : (c : In_ok-sizes) → AreRead (shown c.args.lead.now) sizes (c.deref.result.now ∷ c.deref-2.result.now ∷ c.deref-3.result.now ∷ [])
    × (c.in_ok-sizes.sizes ≡ sizes_of (shown c.args.lead.now) c.deref.result.now c.deref-2.result.now c.deref-3.result.now)
after_sizes c = AreRead-given (shown c.args.lead.now) sizes _ _ _ refl (sym c.read_sizes.ensures ∙ c.in_ok-sizes.was)

pub returns-in_err-workers-clause-judged : goal.returns-in_err-workers-clause-judged
returns-in_err-workers-clause-judged c =
    let read = after_sizes (goal.at.returns-in_err-workers-clause-judged c).In_ok-sizes in
    rw (words (goal.at.returns-in_err-workers-clause-judged c).After-read_sizes, ← c.deref-4.ensures) (
    hands_on c.from_residual-in_err-workers.result c.in_err-workers.field-0.0 c.from_residual-in_err-workers.ensures.1
    ∙ sym (gives-fault_next (shown c.args.lead.now) sizes (Number 0 4 ∷ []) _ (string_bytes c.builders-item.result ∷ []) (Number 1 8) c.number.result c.deref-4.result.now _ _
    c.in_err-workers.field-0.0 read.0 c.number.ensures (sym c.read_number.ensures.value ∙ c.in_err-workers.was)))

-- and the workers
after_workers : (c : In_ok-workers) → AreRead (shown c.args.lead.now) (sizes ++ Number 1 8 ∷ []) (c.deref.result.now ∷ c.deref-2.result.now ∷ c.deref-3.result.now ∷ c.deref-4.result.now ∷ [])
    × (c.in_ok-workers.field-0 ≡ written_number c.deref-4.result.now)
after_workers c =
    AreRead-next (shown c.args.lead.now) sizes _ (Number 1 8) c.number.result c.deref-4.result.now _ _ (after_sizes (goal.at.In_ok-workers c).In_ok-sizes).0 c.number.ensures
    (sym c.read_number.ensures.value ∙ c.in_ok-workers.was)

pub returns-in_err-builders-clause-judged : goal.returns-in_err-builders-clause-judged
returns-in_err-builders-clause-judged c =
    let read = after_workers (goal.at.returns-in_err-builders-clause-judged c).In_ok-workers in
    rw (words (goal.at.returns-in_err-builders-clause-judged c).After-read_sizes, ← c.deref-4.ensures, ← c.deref-5.ensures) (
    hands_on c.from_residual-in_err-builders.result c.in_err-builders.field-0.0 c.from_residual-in_err-builders.ensures.1
    ∙ sym (gives-fault_next (shown c.args.lead.now) (sizes ++ Number 1 8 ∷ []) [] _ [] (Number 0 4) c.number-2.result c.deref-5.result.now _ _
    c.in_err-builders.field-0.0 read.0 c.number-2.ensures (sym c.read_number-2.ensures.value ∙ c.in_err-builders.was)))

pub returns-clause-judged : goal.returns-clause-judged
returns-clause-judged c =
    let before = after_sizes (goal.at.returns-clause-judged c).In_ok-sizes in
    let workers = after_workers (goal.at.returns-clause-judged c).In_ok-workers in
    let builders = AreRead-next (shown c.args.lead.now) (sizes ++ Number 1 8 ∷ []) _ (Number 0 4) c.number-2.result c.deref-5.result.now _ _ workers.0 c.number-2.ensures
    (sym c.read_number-2.ensures.value ∙ c.in_ok-builders.was) in
    rw (words (goal.at.returns-clause-judged c).After-read_sizes, ← c.deref-4.ensures, ← c.deref-5.ensures, before.1, workers.1, builders.1)
    (sym (gives-Ok (shown c.args.lead.now) serve_row.forms _ _ builders.0))
