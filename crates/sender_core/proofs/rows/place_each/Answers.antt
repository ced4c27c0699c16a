use Rattle.std.proofs.Common.{◌∙◌}
use Rattle.std.specs.List.{fold}
use Rattle.psi_bundle.specs.Versions.{placed_at}
use Rattle.sender_core.specs.Kept.{rows_of}
use Rattle.sender_core.specs.Shown.{kept_of_rows}
use Rattle.sender_core.proofs.Caches.{rows-after}
use Rattle.sender_core.proofs.RowLists.{fold_more}
use Rattle.sender_core.proofs.rows.place_each.Goals as goal

pub returns-in_err-place_at-clause-back : goal.returns-in_err-place_at-clause-back
returns-in_err-place_at-clause-back g c = λ first h. c.place_at.ensures.back first (c.loop-p.invariant.back first h)

pub loop-p-preserved : goal.loop-p-preserved
loop-p-preserved g c =
    let first = kept_of_rows c.args.rows.now.items in
    let before = kept_of_rows c.loop-p.rows.items in
    let after = kept_of_rows c.place_at.new.rows.items in
    let place = placed_at c.args.capacity c.args.stamp c.args.member.now in
    record {
      fitted = fold_more place (rows_of before) (rows_of after) (fold place (rows_of first) c.args.places.now) c.args.places.now c.loop-p.p-index 0 c.loop-p-test.true c.in_ok-place_at.ensures.fitted c.loop-p.invariant.fitted;
      caches = rows-after c.args.stamp first before after c.loop-p.invariant.caches c.in_ok-place_at.ensures.caches;
      size = c.place_at.ensures.rows ∙ c.loop-p.invariant.size;
      back = λ start h. c.place_at.ensures.back start (c.loop-p.invariant.back start h);
    }
