use Rattle.std.proofs.Common.{◌≡◌, ◌<◌, ◌/◌, ◌%◌, ◌∙◌, length, arith}
use Rattle.std.proofs.lemmas.List.{length-map}
use Rattle.sender_core.specs.Kept.{kept_row}
use Rattle.sender_core.specs.Shown.{kept_of_row, kept_of_rows}
use Rattle.sender_core.proofs.RowLists.{length-read}
use Rattle.sender_core.proofs.RowChanges.{changed-length, changed-next, changed-at, caches-all}
use Rattle.sender_core.proofs.rows.change_at.Goals as goal

pub change_bundle-requires-clause-index : goal.change_bundle-requires-clause-index
change_bundle-requires-clause-index g c =
    let items = c.args.rows.now.items in
    let edit = c.args.edit.now in
    let within : c.args.p / 819 < length items = omega (arith, c.requires) in
    let row = c.index.result.now in
    let size = changed-length edit.stamp (c.args.p % 819) edit.change edit.tag (kept_of_rows items) (c.args.p / 819) (omega (arith, within, length-map items (λ row. kept_of_row row.items))) c.loop-index.index
    (kept_of_rows c.loop-index.rows.items) c.loop-index.invariant.made in
    omega (arith, c.loop-index-test.true, c.len-index-end.ensures, row.ok.0, length-read items (c.args.p / 819) row within c.index.ensures, size)

pub returns-in_err-change_bundle-clause-back : goal.returns-in_err-change_bundle-clause-back
returns-in_err-change_bundle-clause-back g c = λ first h. c.change_bundle.ensures.back first (c.loop-index.invariant.back first h)

pub loop-index-preserved : goal.loop-index-preserved
loop-index-preserved g c =
    let items = c.args.rows.now.items in
    let edit = c.args.edit.now in
    let within : c.args.p / 819 < length items = omega (arith, c.requires) in
    let row = c.index.result.now in
    let lt : c.loop-index.index < length (kept_row (kept_of_rows items) (c.args.p / 819)) =
    omega (arith, c.loop-index-test.true, c.len-index-end.ensures, row.ok.0, length-read items (c.args.p / 819) row within c.index.ensures) in
    record {
      made = c.in_ok-change_bundle.ensures.made
          ∙ changed-next edit.stamp (c.args.p % 819) edit.change edit.tag (kept_of_rows items) (c.args.p / 819) (omega (arith, within, length-map items (λ row. kept_of_row row.items))) c.loop-index.index
          (kept_of_rows c.loop-index.rows.items) lt c.loop-index.invariant.made;
      size = c.change_bundle.ensures.rows ∙ c.loop-index.invariant.size;
      back = λ first h. c.change_bundle.ensures.back first (c.loop-index.invariant.back first h);
    }

pub returns-clause-made : goal.returns-clause-made
returns-clause-made g c =
    let items = c.args.rows.now.items in
    let edit = c.args.edit.now in
    let within : c.args.p / 819 < length items = omega (arith, c.requires) in
    let row = c.index.result.now in
    let all : c.loop-index.index ≡ length (kept_row (kept_of_rows items) (c.args.p / 819)) =
    omega (arith, c.loop-index-test.false, c.loop-index.auto.index-end, c.len-index-end.ensures, row.ok.0, length-read items (c.args.p / 819) row within c.index.ensures) in
    changed-at edit.stamp c.args.p edit.change edit.tag (kept_of_rows items) (kept_of_rows c.loop-index.rows.items) c.loop-index.index all c.loop-index.invariant.made

pub returns-clause-caches : goal.returns-clause-caches
returns-clause-caches g c =
    let items = c.args.rows.now.items in
    let edit = c.args.edit.now in
    let within : c.args.p / 819 < length items = omega (arith, c.requires) in
    let row = c.index.result.now in
    let all : c.loop-index.index ≡ length (kept_row (kept_of_rows items) (c.args.p / 819)) =
    omega (arith, c.loop-index-test.false, c.loop-index.auto.index-end, c.len-index-end.ensures, row.ok.0, length-read items (c.args.p / 819) row within c.index.ensures) in
    caches-all edit.stamp (c.args.p % 819) edit.change edit.tag (kept_of_rows items) (c.args.p / 819) c.loop-index.index (kept_of_rows c.loop-index.rows.items) all c.loop-index.invariant.made
