use Rattle.std.proofs.Common.{◌∙◌, ◌++◌, ℕ, List, sym, ap, refl, subst, arith}
use Rattle.std.proofs.lemmas.List.{append-nil, length-map, take_all}
use Rattle.noise_ledger.specs.Verdicts.{parameters_of}
use Rattle.bundle_cache.specs.Queries.{ScratchOf}
use Rattle.psi_bundle.specs.Bodies.{evaluated_bundle, evaluated_row}
use Rattle.psi_bundle.specs.Versions.{Row}
use Rattle.sender_core.specs.Kept.{row_of, stamped_of}
use Rattle.sender_core.specs.Sights.{seen_of, seen_row}
use Rattle.bundle_cache.specs.Caches.{cached_bins}
use Rattle.query_pool.specs.Caching.{IsScratch}
use Rattle.query_pool.proofs.Sights.{sight-more, sight-ready}
use Rattle.query_pool.proofs.evaluation.evaluate_row.Goals as goal

pub loop-sight-init : goal.loop-sight-init
loop-sight-init g c = record { evaluated = sym (append-nil c.args.cts.now.items); scratch = refl }

pub evaluate_bundle-requires-clause-ready : goal.evaluate_bundle-requires-clause-ready
evaluate_bundle-requires-clause-ready g c _ _ =
    sight-ready (parameters_of c.args.query.now.params) c.args.sights.now c.loop-sight.sight-index c.sight-item.result c.loop-sight-test.true c.sight-item.is c.requires.ready

pub evaluate_bundle-requires-clause-scratch : goal.evaluate_bundle-requires-clause-scratch
evaluate_bundle-requires-clause-scratch g c _ _ = subst (λ (s : ScratchOf). IsScratch (parameters_of c.args.query.now.params) s) (sym c.loop-sight.invariant.scratch) c.requires.scratch

pub returns-in_err-evaluate_bundle-clause-scratch : goal.returns-in_err-evaluate_bundle-clause-scratch
returns-in_err-evaluate_bundle-clause-scratch g c = c.in_err-evaluate_bundle.ensures.scratch ∙ c.loop-sight.invariant.scratch

pub loop-sight-preserved : goal.loop-sight-preserved
loop-sight-preserved g c =
    let p = parameters_of c.args.query.now.params in
    let query = c.args.query.now.powers.query in
    record {
      evaluated =
          c.in_ok-evaluate_bundle.ensures.evaluated
          ∙ ap (λ (cts : List (List (List ℕ))). cts ++ evaluated_bundle p query c.args.row (seen_of cached_bins c.sight-item.result).bins) c.loop-sight.invariant.evaluated
          ∙ sight-more p query c.args.row c.args.sights.now c.loop-sight.sight-index c.sight-item.result c.args.cts.now.items c.loop-sight-test.true c.sight-item.is;
      scratch = c.in_ok-evaluate_bundle.ensures.scratch ∙ c.loop-sight.invariant.scratch;
    }

pub returns-clause-evaluated : goal.returns-clause-evaluated
returns-clause-evaluated g c =
    let p = parameters_of c.args.query.now.params in
    let row = row_of (seen_row cached_bins c.args.sights.now) in
    c.loop-sight.invariant.evaluated
    ∙ ap (λ (us : Row). c.args.cts.now.items ++ evaluated_row p c.args.query.now.powers.query c.args.row us)
    (take_all c.loop-sight.sight-index row (omega (arith, c.loop-sight-test.false, length-map c.args.sights.now (seen_of cached_bins), length-map (seen_row cached_bins c.args.sights.now) stamped_of)))

pub returns-clause-scratch : goal.returns-clause-scratch
returns-clause-scratch g c = c.loop-sight.invariant.scratch
