-- What a book's parts stand for, and what an entry makes of them.
use Rattle.std.specs.Prelude.{◌≡◌, ◌-◌, List, [], ◌∷◌, ◌++◌}
use Rattle.std.specs.Vec.{vec_len, vec_capacity}
use Rattle.std.specs.FinMap as fin
use Rattle.psi_bundle.specs.declared.history.Entry.{Entry}
use Rattle.psi_bundle.specs.Versions.{Labels}
use Rattle.noise_ledger.specs.Verdicts.{parameters_of}
use Rattle.sender_core.specs.declared.state.State.{State}
use Rattle.sender_core.specs.Kept.{Kept, Contents, rows_of, start_from}
use Rattle.sender_core.specs.Shown.{kept_of_rows}

module _ {C : Type 0} where
  -- the contents
  abbrev pub contents_of : State C → Contents C
  contents_of s = record {
    parameters = parameters_of s.params;
    start = start_from (rows_of (kept_of_rows s.first_rows.items));
    labels = s.labels.entries;
    rows = kept_of_rows s.rows.items;
    journal = s.journal.items;
    room = vec_capacity s.journal - vec_len s.journal;
  }

  -- One entry more, with these labels and these rows.
  pub record GainsEntry (old new : Contents C) (labels : Labels) (rows : List (List (Kept C))) (e : Entry) : Type 0 where
    pub parameters : new.parameters ≡ old.parameters
    pub start : new.start ≡ old.start
    pub labelled : fin.from_entries new.labels ≡ labels
    pub stands : new.rows ≡ rows
    pub written : new.journal ≡ old.journal ++ e ∷ []
