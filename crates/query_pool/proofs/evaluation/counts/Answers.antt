use Rattle.std.proofs.Common.{◌≡◌, ◌∙◌, ◌<◌, [], ◌∷◌, ◌++◌, ℕ, List, length, take, ap, arith}
use Rattle.std.proofs.lemmas.List.{length-map, take_all}
use Rattle.noise_ledger.specs.Verdicts.{parameters_of}
use Rattle.psi_bundle.specs.Bodies.{bundle_counts}
use Rattle.psi_bundle.specs.Versions.{Row}
use Rattle.sender_core.specs.Kept.{row_of, rows_of}
use Rattle.query_pool.proofs.Evaluated.{counts-more}
use Rattle.query_pool.proofs.Ready.{few-bundles, length-row_at, length-sights, number-of_rows}
use Rattle.query_pool.proofs.evaluation.counts.Goals as goal

pub overflow_cast-bundles : goal.overflow_cast-bundles
overflow_cast-bundles c =
    let rows = c.args.snapshot.now.rows in
    let few = few-bundles (parameters_of c.args.params.now) rows c.requires.set c.loop-row.row in
    let size = length-sights c.bundles.result.now rows c.loop-row.row c.bundles.ensures in
    omega (arith, few, size)

pub loop-row-preserved : goal.loop-row-preserved
loop-row-preserved c =
    let rows = c.args.snapshot.now.rows in
    let number = number-of_rows (parameters_of c.args.params.now) rows c.requires.set in
    let within : c.loop-row.row < length (rows_of rows) = omega (arith, length-map rows row_of, number, c.loop-row-test.true) in
    let before = bundle_counts (take c.loop-row.row (rows_of rows)) in
    let pushed : c.push.new.self.items ≡ before ++ length c.bundles.result.now ∷ [] = c.in_ok-push.ensures.items ∙ ap (λ (counts : List ℕ). counts ++ length c.bundles.result.now ∷ []) c.loop-row.invariant in
    pushed ∙ counts-more (rows_of rows) c.loop-row.row (length c.bundles.result.now) within (length-row_at c.bundles.result.now rows c.loop-row.row c.bundles.ensures)

pub returns : goal.returns
returns c =
    let rows = c.args.snapshot.now.rows in
    let number = number-of_rows (parameters_of c.args.params.now) rows c.requires.set in
    c.loop-row.invariant ∙ ap (λ (rs : List Row). bundle_counts rs) (take_all c.loop-row.row (rows_of rows) (omega (arith, length-map rows row_of, number, c.loop-row-test.false)))
