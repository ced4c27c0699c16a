use Rattle.std.proofs.Common.{◌∙◌, ◌++◌, ◌∷◌, [], List, ap, refl}
use Rattle.psi_bundle.specs.declared.history.Entry.{Entry}
use Rattle.psi_bundle.specs.declared.history.Call.TheVariants as Call
use Rattle.sender_core.proofs.RowLists.{kept_rows-set}
use Rattle.sender_core.proofs.state.State.put_in.Goals as goal

pub returns-clause-entered : goal.returns-clause-entered
returns-clause-entered g c = record {
  parameters = refl;
  start = refl;
  labelled = refl;
  stands = kept_rows-set c.args.self.now.rows.items c.args.row c.args.bundles;
  written = c.push_reserved.ensures.items ∙ ap (λ (es : List Entry). es ++ record { call = Call.Repack c.args.row c.args.from; answer = c.args.answer } ∷ []) c.reserve.ensures.items;
}
