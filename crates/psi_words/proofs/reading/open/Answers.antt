use Rattle.std.proofs.Common.{◌≡◌, ◌∷◌, [], ◌++◌, inl, inr, map, string_bytes, refl, sym, ap, ◌∙◌}
use Rattle.psi_words.specs.Forms.{seed_of}
use Rattle.psi_words.specs.Forms.Form.{Seed, File}
use Rattle.psi_words.specs.Grammar.{open_row, sizes}
use Rattle.psi_words.specs.Leads.{shown, sizes_of}
use Rattle.psi_words.proofs.Behind.{AreRead, AreRead-given, AreRead-next, gives-Ok, gives-fault, gives-fault_next, hands_on, judged_fault, judged_memory, read-is}
use Rattle.psi_words.proofs.Elements.{five_are}
use Rattle.psi_words.proofs.reading.open.Goals as goal
use Rattle.psi_words.proofs.reading.open.Goals.{After-read_sizes, In_ok-sizes, In_ok-seed}

-- the words behind the command word
words : (c : After-read_sizes) → map string_bytes c.args.behind.now
    ≡ c.deref.result.now ∷ c.deref-2.result.now ∷ c.deref-3.result.now ∷ string_bytes c.seed-item.result ∷ string_bytes c.file-item.result ∷ []
words c =
    ap (map string_bytes) (five_are c.args.behind.now _ _ _ _ _ c.in-len5.len_at_least c.in-len5.len_below c.rows-item.is c.capacity-item.is c.units-item.is c.seed-item.is c.file-item.is)
    ∙ rw (c.deref.ensures, c.deref-2.ensures, c.deref-3.ensures) refl

-- the sizes were read
after_sizes : (c : In_ok-sizes) → AreRead (shown c.args.lead.now) sizes (c.deref.result.now ∷ c.deref-2.result.now ∷ c.deref-3.result.now ∷ [])
    × (c.in_ok-sizes.sizes ≡ sizes_of (shown c.args.lead.now) c.deref.result.now c.deref-2.result.now c.deref-3.result.now)
after_sizes c = AreRead-given (shown c.args.lead.now) sizes _ _ _ refl (sym c.read_sizes.ensures ∙ c.in_ok-sizes.was)

-- and the seed
after_seed : (c : In_ok-seed) → AreRead (shown c.args.lead.now) (sizes ++ Seed ∷ []) (c.deref.result.now ∷ c.deref-2.result.now ∷ c.deref-3.result.now ∷ c.deref-4.result.now ∷ [])
    × (c.in_ok-seed.seed ≡ seed_of c.deref-4.result.now)
after_seed c =
    AreRead-next (shown c.args.lead.now) sizes _ Seed c.number.result c.deref-4.result.now _ _ (after_sizes (goal.at.In_ok-seed c).In_ok-sizes).0 c.number.ensures
    (sym c.read_seed.ensures ∙ c.in_ok-seed.was)

pub returns-in_err-sizes-clause-fault : goal.returns-in_err-sizes-clause-fault
returns-in_err-sizes-clause-fault c =
    judged_fault c.from_residual.result _ c.in_err-sizes.field-0.0 (hands_on c.from_residual.result c.in_err-sizes.field-0.0 c.from_residual.ensures.1)
    (rw (words (goal.at.returns-in_err-sizes-clause-fault c).After-read_sizes)
    (gives-fault (shown c.args.lead.now) sizes (Seed ∷ File ∷ []) (c.deref.result.now ∷ c.deref-2.result.now ∷ c.deref-3.result.now ∷ [])
    (string_bytes c.seed-item.result ∷ string_bytes c.file-item.result ∷ []) _ _ c.in_err-sizes.field-0.0 (sym c.read_sizes.ensures ∙ c.in_err-sizes.was)))

pub returns-in_err-seed-clause-fault : goal.returns-in_err-seed-clause-fault
returns-in_err-seed-clause-fault c =
    let read = after_sizes (goal.at.returns-in_err-seed-clause-fault c).In_ok-sizes in
    judged_fault c.from_residual-in_err-seed.result _ c.in_err-seed.field-0.0 (hands_on c.from_residual-in_err-seed.result c.in_err-seed.field-0.0 c.from_residual-in_err-seed.ensures.1)
    (rw (words (goal.at.returns-in_err-seed-clause-fault c).After-read_sizes, ← c.deref-4.ensures)
    (gives-fault_next (shown c.args.lead.now) sizes (File ∷ []) _ (string_bytes c.file-item.result ∷ []) Seed
    c.number.result c.deref-4.result.now _ _ c.in_err-seed.field-0.0 read.0 c.number.ensures (sym c.read_seed.ensures ∙ c.in_err-seed.was)))

pub returns-in_err-file-clause-fault : goal.returns-in_err-file-clause-fault
returns-in_err-file-clause-fault c =
    let read = after_seed (goal.at.returns-in_err-file-clause-fault c).In_ok-seed in
    let handed = hands_on c.from_residual-in_err-file.result c.in_err-file.field-0.0 c.from_residual-in_err-file.ensures.1 in
    elim c.in_err-file.ensures.fault [
      | inl wrong ↦
          judged_fault c.from_residual-in_err-file.result _ c.in_err-file.field-0.0 handed
          (rw (words (goal.at.returns-in_err-file-clause-fault c).After-read_sizes, ← c.deref-4.ensures, ← c.deref-5.ensures)
          (gives-fault_next (shown c.args.lead.now) (sizes ++ Seed ∷ []) [] _ [] File c.number-2.result c.deref-5.result.now _ _ c.in_err-file.field-0.0 read.0 c.number-2.ensures wrong))
      | inr memory ↦
          let file = AreRead-next (shown c.args.lead.now) (sizes ++ Seed ∷ []) _ File c.number-2.result c.deref-5.result.now _ _ read.0 c.number-2.ensures
          (read-is File c.number-2.result c.deref-5.result.now c.deref-5.result.now memory.1) in
          judged_memory c.from_residual-in_err-file.result _ c.in_err-file.field-0.0
          (open_row.command (shown c.args.lead.now) (c.deref.result.now ∷ c.deref-2.result.now ∷ c.deref-3.result.now ∷ c.deref-4.result.now ∷ c.deref-5.result.now ∷ [])) handed memory.0
          (rw (words (goal.at.returns-in_err-file-clause-fault c).After-read_sizes, ← c.deref-4.ensures, ← c.deref-5.ensures) (gives-Ok (shown c.args.lead.now) open_row.forms _ _ file.0))
          tt
    ]

pub returns-clause-command : goal.returns-clause-command
returns-clause-command c =
    let before = after_sizes (goal.at.returns-clause-command c).In_ok-sizes in
    let seed = after_seed (goal.at.returns-clause-command c).In_ok-seed in
    let file = AreRead-next (shown c.args.lead.now) (sizes ++ Seed ∷ []) _ File c.number-2.result c.deref-5.result.now _ _ seed.0 c.number-2.ensures c.in_ok-file.ensures.name in
    rw (words (goal.at.returns-clause-command c).After-read_sizes, ← c.deref-4.ensures, ← c.deref-5.ensures, before.1, seed.1, file.1)
    (gives-Ok (shown c.args.lead.now) open_row.forms _ _ file.0)
