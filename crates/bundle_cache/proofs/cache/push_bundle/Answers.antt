use Rattle.std.proofs.Common.{◌≡◌, ◌∙◌, ◌+◌, ◌*◌, ℕ, List, length, ap, sym, subst, arith}
use Rattle.std.proofs.lemmas.List.FromFn.{length-map-range_with_len}
use Rattle.std.proofs.lemmas.Nat.{mul-add-lt}
use Rattle.noise_ledger.specs.Verdicts.{parameters_of}
use Rattle.row_block.specs.Rows.{Block}
use Rattle.bundle_cache.specs.Caches.{bundle_row}
use Rattle.bundle_cache.specs.Columns.{AreColumns}
use Rattle.bundle_cache.proofs.Pushing.{planes-more}
use Rattle.bundle_cache.proofs.Writing.{cells-ready}
use Rattle.bundle_cache.proofs.cache.push_bundle.Goals as goal

pub push_columns-requires-clause-cells : goal.push_columns-requires-clause-cells
push_columns-requires-clause-cells g c κs within =
    let p = parameters_of c.args.params.now in
    let few = c.requires.passed.ranges.few_members in
    cells-ready p c.args.bundle.now c.loop-plane.plane (c.coefficients-count.result) c.deref.result.now (omega (arith, c.coefficients-count.ensures.number)) (omega (arith, few, c.coefficients-count.ensures.number))
    (subst (λ (columns : List ℕ). AreColumns p c.args.bundle.now c.loop-plane.plane columns) (sym c.deref.ensures.value) c.in_ok-columns.ensures)

pub push_columns-requires-clause-room : goal.push_columns-requires-clause-room
push_columns-requires-clause-room g c =
    let p = parameters_of c.args.params.now in
    let f = bundle_row p c.args.bundle.now in
    let held : length c.loop-plane.block.held ≡ c.loop-plane.plane * (c.args.params.now.capacity + 1) = ap (λ (b : Block). length b.held) c.loop-plane.invariant ∙ length-map-range_with_len f 0 (c.loop-plane.plane * (c.args.params.now.capacity + 1)) in
    let rows : c.loop-plane.block.rows ≡ c.args.block.now.rows = ap (λ (b : Block). b.rows) c.loop-plane.invariant in
    let within = mul-add-lt c.loop-plane.plane (c.args.params.now.capacity + 1) c.args.params.now.capacity (1 + c.args.params.now.units) (omega (arith, c.loop-plane-test.true)) (omega arith) in
    omega (arith, held, rows, within, c.requires.room, c.coefficients-count.ensures.number)

pub loop-plane-preserved : goal.loop-plane-preserved
loop-plane-preserved g c =
    let p = parameters_of c.args.params.now in
    planes-more p c.args.bundle.now c.args.block.now c.loop-plane.block c.push_columns.new.block c.loop-plane.plane (c.coefficients-count.result) c.deref.result.now (omega (arith, c.coefficients-count.ensures.number))
    (subst (λ (columns : List ℕ). AreColumns p c.args.bundle.now c.loop-plane.plane columns) (sym c.deref.ensures.value) c.in_ok-columns.ensures)
    c.loop-plane.invariant c.in_ok-push_columns.ensures.rows
