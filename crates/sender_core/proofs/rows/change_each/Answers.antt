use Rattle.std.proofs.Common.{◌∙◌}
use Rattle.std.specs.List.{fold}
use Rattle.psi_bundle.specs.Versions.{changed_at}
use Rattle.sender_core.specs.Kept.{rows_of}
use Rattle.sender_core.specs.Shown.{kept_of_rows}
use Rattle.sender_core.specs.Changes.{bin_after}
use Rattle.sender_core.proofs.Caches.{rows-after}
use Rattle.sender_core.proofs.RowLists.{fold_more}
use Rattle.sender_core.proofs.rows.change_each.Goals as goal

pub returns-in_err-change_at-clause-back : goal.returns-in_err-change_at-clause-back
returns-in_err-change_at-clause-back g c = λ first h. c.change_at.ensures.back first (c.loop-p.invariant.back first h)

pub loop-p-preserved : goal.loop-p-preserved
loop-p-preserved g c =
    let first = kept_of_rows c.args.rows.now.items in
    let before = kept_of_rows c.loop-p.rows.items in
    let after = kept_of_rows c.change_at.new.rows.items in
    let edit = c.args.edit.now in
    let change = changed_at edit.stamp (bin_after edit.change edit.tag) edit.tag in
    record {
      made = fold_more change (rows_of before) (rows_of after) (fold change (rows_of first) c.args.places.now) c.args.places.now c.loop-p.p-index 0 c.loop-p-test.true c.in_ok-change_at.ensures.made c.loop-p.invariant.made;
      caches = rows-after edit.stamp first before after c.loop-p.invariant.caches c.in_ok-change_at.ensures.caches;
      size = c.change_at.ensures.rows ∙ c.loop-p.invariant.size;
      back = λ start h. c.change_at.ensures.back start (c.loop-p.invariant.back start h);
    }
