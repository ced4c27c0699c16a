use Rattle.std.proofs.Common.{◌≡◌, ◌-◌, ◌+◌, ℕ, List, map, ap, ◌∙◌, arith}
use Rattle.std.specs.List.{range_with_len}
use Rattle.std.proofs.lemmas.Result.{MatchResult-weaker}
use Rattle.rayon.specs.Numbers.{nat_range}
use Rattle.rayon.proofs.ToStd.{nat_range-All}
use Rattle.bundle_cache.specs.Columns.{IsCell, row_of_column}
use Rattle.bundle_cache.proofs.Pushing.{all-there}
use Rattle.bundle_cache.proofs.rows.rows_of.Goals as goal

pub collect-requires-clause-ready : goal.collect-requires-clause-ready
collect-requires-clause-ready g c κs within =
    let ends = c.into_par_iter.ensures in
    let inside = nat_range-All (λ i. IsCell c.args.columns.now i) c.args.first (c.args.first + c.args.size) (λ i low high. c.requires.cells i high) in
    rw (c.map.ensures.base, c.map.ensures.f, c.with_min_len.ensures.base, ends.0, ends.1) (λ k d lt. (inside k d lt, λ y p. tt))

pub returns : goal.returns
returns g c =
    let ends = c.into_par_iter.ensures in
    let whole : c.args.first + c.args.size - c.args.first ≡ c.args.size = omega arith in
    let made : ℕ → List ℕ = row_of_column c.args.columns.now in
    let done = c.in_ok-collect.ensures in
    let chain = rw (c.map.ensures.base, c.map.ensures.f, c.with_min_len.ensures.base) at done.1 in
    let places = chain.1 ∙ (λ i. nat_range (ends.0 i) (ends.1 i)) ∙ ap (range_with_len c.args.first) whole in
    MatchResult-weaker c.in_ok-collect.field-0 done.2 (λ v h. h.2 ∙ all-there made chain.0 done.0 h.0 chain.2 h.1 ∙ ap (map made) places) (λ e h. tt)
