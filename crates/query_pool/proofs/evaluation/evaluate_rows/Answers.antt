use Rattle.std.proofs.Common.{◌∙◌, ◌++◌, ◌<◌, List, length, sym, ap, refl, subst, arith}
use Rattle.std.proofs.lemmas.List.{length-map, take_all}
use Rattle.noise_ledger.specs.Verdicts.{parameters_of}
use Rattle.bundle_cache.specs.Caches.{CacheOf}
use Rattle.bundle_cache.specs.Queries.{ScratchOf}
use Rattle.psi_bundle.specs.Bodies.{evaluated_row, evaluated_rows}
use Rattle.psi_bundle.specs.Versions.{Row}
use Rattle.sender_core.specs.Kept.{Kept, row_of, rows_of}
use Rattle.sender_core.proofs.RowLists.{row-alone}
use Rattle.query_pool.specs.Caching.{AreReady, IsScratch}
use Rattle.query_pool.proofs.Evaluated.{rows-more, rows-none}
use Rattle.query_pool.proofs.Ready.{number-of_rows, ready}
use Rattle.query_pool.proofs.evaluation.evaluate_rows.Goals as goal

pub loop-row-init : goal.loop-row-init
loop-row-init g c = record { evaluated = c.new-cts.ensures.items ∙ sym (rows-none (parameters_of c.args.query.now.params) c.args.query.now.powers.query); scratch = refl }

pub evaluate_row-requires-clause-ready : goal.evaluate_row-requires-clause-ready
evaluate_row-requires-clause-ready g c _ _ =
    let p = parameters_of c.args.query.now.params in
    subst (λ (ks : List (Kept CacheOf)). AreReady p ks) (sym c.bundles.ensures) (ready p c.args.snapshot.now.rows c.requires.set c.loop-row.row)

pub evaluate_row-requires-clause-scratch : goal.evaluate_row-requires-clause-scratch
evaluate_row-requires-clause-scratch g c _ _ = subst (λ (s : ScratchOf). IsScratch (parameters_of c.args.query.now.params) s) (sym c.loop-row.invariant.scratch) c.requires.scratch

pub returns-in_err-evaluate_row-clause-scratch : goal.returns-in_err-evaluate_row-clause-scratch
returns-in_err-evaluate_row-clause-scratch g c = c.in_err-evaluate_row.ensures.scratch ∙ c.loop-row.invariant.scratch

pub loop-row-preserved : goal.loop-row-preserved
loop-row-preserved g c =
    let p = parameters_of c.args.query.now.params in
    let query = c.args.query.now.powers.query in
    let rows = c.args.snapshot.now.rows in
    let r = c.loop-row.row in
    let within : r < length (rows_of rows) = omega (arith, length-map rows row_of, number-of_rows p rows c.requires.set, c.loop-row-test.true) in
    let here = ap (λ (ks : List (Kept CacheOf)). row_of ks) c.bundles.ensures ∙ sym (row-alone rows r) in
    record {
      evaluated =
          c.in_ok-evaluate_row.ensures.evaluated
          ∙ (λ i. c.loop-row.invariant.evaluated i ++ evaluated_row p query r (here i))
          ∙ rows-more p query (rows_of rows) r within;
      scratch = c.in_ok-evaluate_row.ensures.scratch ∙ c.loop-row.invariant.scratch;
    }

pub returns-clause-evaluated : goal.returns-clause-evaluated
returns-clause-evaluated g c =
    let p = parameters_of c.args.query.now.params in
    let rows = c.args.snapshot.now.rows in
    c.loop-row.invariant.evaluated
    ∙ ap (λ (rs : List Row). evaluated_rows p rs c.args.query.now.powers.query)
    (take_all c.loop-row.row (rows_of rows) (omega (arith, c.loop-row-test.false, length-map rows row_of, number-of_rows p rows c.requires.set)))

pub returns-clause-scratch : goal.returns-clause-scratch
returns-clause-scratch g c = c.loop-row.invariant.scratch
