use Rattle.std.proofs.Common.{◌≡◌, ◌∷◌, [], ◌++◌, map, string_bytes, refl, sym, ap, ◌∙◌}
use Rattle.psi_words.specs.Forms.{written_number, seed_of}
use Rattle.psi_words.specs.Forms.Form.{Number, Seed}
use Rattle.psi_words.specs.Grammar.{ask_row, sizes}
use Rattle.psi_words.specs.Leads.{shown, sizes_of}
use Rattle.psi_words.proofs.Behind.{AreRead, AreRead-given, AreRead-next, gives-Ok, gives-fault, gives-fault_next, hands_on}
use Rattle.psi_words.proofs.Elements.{six_are}
use Rattle.psi_words.proofs.reading.ask.Goals as goal
use Rattle.psi_words.proofs.reading.ask.Goals.{After-read_sizes, In_ok-sizes, In_ok-seed, In_ok-session}

-- the words behind the command word
words : (c : After-read_sizes) → map string_bytes c.args.behind.now
    ≡ c.deref.result.now ∷ c.deref-2.result.now ∷ c.deref-3.result.now ∷ string_bytes c.seed-item.result ∷ string_bytes c.session-item.result ∷ string_bytes c.number-item.result ∷ []
words c =
    ap (map string_bytes) (six_are c.args.behind.now _ _ _ _ _ _ c.in-len6.len_at_least c.in-len6.len_below c.rows-item.is c.capacity-item.is c.units-item.is c.seed-item.is c.session-item.is c.number-item.is)
    ∙ rw (c.deref.ensures, c.deref-2.ensures, c.deref-3.ensures) refl

-- the sizes were read
after_sizes : (c : In_ok-sizes) → AreRead (shown c.args.lead.now) sizes (c.deref.result.now ∷ c.deref-2.result.now ∷ c.deref-3.result.now ∷ [])
    × (c.in_ok-sizes.sizes ≡ sizes_of (shown c.args.lead.now) c.deref.result.now c.deref-2.result.now c.deref-3.result.now)
after_sizes c = AreRead-given (shown c.args.lead.now) sizes _ _ _ refl (sym c.read_sizes.ensures ∙ c.in_ok-sizes.was)

-- and the seed
after_seed : (c : In_ok-seed) → AreRead (shown c.args.lead.now) (sizes ++ Seed ∷ []) (c.deref.result.now ∷ c.deref-2.result.now ∷ c.deref-3.result.now ∷ c.deref-4.result.now ∷ [])
    × (c.in_ok-seed.seed ≡ seed_of c.deref-4.result.now)
after_seed c =
    AreRead-next (shown c.args.lead.now) sizes _ Seed c.number.result c.deref-4.result.now _ _ (after_sizes (goal.at.In_ok-seed c).In_ok-sizes).0 c.number.ensures
    (sym c.read_seed.ensures ∙ c.in_ok-seed.was)

-- and the session
after_session : (c : In_ok-session) → AreRead (shown c.args.lead.now) (sizes ++ Seed ∷ Number 0 65535 ∷ [])
    (c.deref.result.now ∷ c.deref-2.result.now ∷ c.deref-3.result.now ∷ c.deref-4.result.now ∷ c.deref-5.result.now ∷ [])
    × (c.in_ok-session.field-0 ≡ written_number c.deref-5.result.now)
after_session c =
    AreRead-next (shown c.args.lead.now) (sizes ++ Seed ∷ []) _ (Number 0 65535) c.number-2.result c.deref-5.result.now _ _ (after_seed (goal.at.In_ok-session c).In_ok-seed).0 c.number-2.ensures
    (sym c.read_number.ensures.value ∙ c.in_ok-session.was)

pub returns-in_err-sizes-clause-judged : goal.returns-in_err-sizes-clause-judged
returns-in_err-sizes-clause-judged c =
    rw (words (goal.at.returns-in_err-sizes-clause-judged c).After-read_sizes) (
    hands_on c.from_residual.result c.in_err-sizes.field-0.0 c.from_residual.ensures.1
    ∙ sym (gives-fault (shown c.args.lead.now) sizes (Seed ∷ Number 0 65535 ∷ Number 0 4294967295 ∷ []) (c.deref.result.now ∷ c.deref-2.result.now ∷ c.deref-3.result.now ∷ [])
    (string_bytes c.seed-item.result ∷ string_bytes c.session-item.result ∷ string_bytes c.number-item.result ∷ []) _ _ c.in_err-sizes.field-0.0 (sym c.read_sizes.ensures ∙ c.in_err-sizes.was)))

pub returns-in_err-seed-clause-judged : goal.returns-in_err-seed-clause-judged
returns-in_err-seed-clause-judged c =
    let read = after_sizes (goal.at.returns-in_err-seed-clause-judged c).In_ok-sizes in
    rw (words (goal.at.returns-in_err-seed-clause-judged c).After-read_sizes, ← c.deref-4.ensures) (
    hands_on c.from_residual-in_err-seed.result c.in_err-seed.field-0.0 c.from_residual-in_err-seed.ensures.1
    ∙ sym (gives-fault_next (shown c.args.lead.now) sizes (Number 0 65535 ∷ Number 0 4294967295 ∷ []) _ (string_bytes c.session-item.result ∷ string_bytes c.number-item.result ∷ []) Seed
    c.number.result c.deref-4.result.now _ _ c.in_err-seed.field-0.0 read.0 c.number.ensures (sym c.read_seed.ensures ∙ c.in_err-seed.was)))

pub returns-in_err-session-clause-judged : goal.returns-in_err-session-clause-judged
returns-in_err-session-clause-judged c =
    let read = after_seed (goal.at.returns-in_err-session-clause-judged c).In_ok-seed in
    rw (words (goal.at.returns-in_err-session-clause-judged c).After-read_sizes, ← c.deref-4.ensures, ← c.deref-5.ensures) (
    hands_on c.from_residual-in_err-session.result c.in_err-session.field-0.0 c.from_residual-in_err-session.ensures.1
    ∙ sym (gives-fault_next (shown c.args.lead.now) (sizes ++ Seed ∷ []) (Number 0 4294967295 ∷ []) _ (string_bytes c.number-item.result ∷ []) (Number 0 65535)
    c.number-2.result c.deref-5.result.now _ _ c.in_err-session.field-0.0 read.0 c.number-2.ensures (sym c.read_number.ensures.value ∙ c.in_err-session.was)))

pub returns-in_err-number-clause-judged : goal.returns-in_err-number-clause-judged
returns-in_err-number-clause-judged c =
    let read = after_session (goal.at.returns-in_err-number-clause-judged c).In_ok-session in
    rw (words (goal.at.returns-in_err-number-clause-judged c).After-read_sizes, ← c.deref-4.ensures, ← c.deref-5.ensures, ← c.deref-6.ensures) (
    hands_on c.from_residual-in_err-number.result c.in_err-number.field-0.0 c.from_residual-in_err-number.ensures.1
    ∙ sym (gives-fault_next (shown c.args.lead.now) (sizes ++ Seed ∷ Number 0 65535 ∷ []) [] _ [] (Number 0 4294967295)
    c.number-3.result c.deref-6.result.now _ _ c.in_err-number.field-0.0 read.0 c.number-3.ensures (sym c.read_number-2.ensures.value ∙ c.in_err-number.was)))

pub returns-clause-judged : goal.returns-clause-judged
returns-clause-judged c =
    let before = after_sizes (goal.at.returns-clause-judged c).In_ok-sizes in
    let seed = after_seed (goal.at.returns-clause-judged c).In_ok-seed in
    let session = after_session (goal.at.returns-clause-judged c).In_ok-session in
    let number = AreRead-next (shown c.args.lead.now) (sizes ++ Seed ∷ Number 0 65535 ∷ []) _ (Number 0 4294967295) c.number-3.result c.deref-6.result.now _ _ session.0 c.number-3.ensures
    (sym c.read_number-2.ensures.value ∙ c.in_ok-number.was) in
    rw (words (goal.at.returns-clause-judged c).After-read_sizes, ← c.deref-4.ensures, ← c.deref-5.ensures, ← c.deref-6.ensures, before.1, seed.1, session.1, number.1)
    (sym (gives-Ok (shown c.args.lead.now) ask_row.forms _ _ number.0))
