-- What each thread leaves, from what the calls of the threads answer.
use Rattle.std.specs.Prelude.{◌≡◌, ℕ, suc, ◌<◌, List, [], ◌∷◌, length, map, Result, Ok, IfOk, slice_index_or}
use Rattle.std.specs.List.{AllZip}
use Rattle.std.proofs.Common.{sym, subst, arith}
use Rattle.query_pool.specs.declared.jobs.Job.{Job}
use Rattle.query_pool.specs.declared.lane.Done.{Done}
use Rattle.query_pool.specs.Jobs.{HasRun}

-- all are done
done : (E : Type 0) (js : List Job) (ds : List Done) → AllZip {B = Result Done E} (λ j r. IfOk r (HasRun j)) js (map {B = Result Done E} (λ d. Ok d) ds) → AllZip HasRun js ds
done E [] [] ran = tt
done E [] (d ∷ ds) ran = absurd ran
done E (j ∷ js) [] ran = absurd ran
done E (j ∷ js) (d ∷ ds) ran = (ran.0, done E js ds ran.1)

module _ {E : Type 0} where
  -- what holds of each number holds of the lists together
  one_by_one : (js : List Job) (rs : List (Result Done E)) → length rs ≡ length js
      → ((i : ℕ) (j : Job) (r : Result Done E) → i < length js → IfOk (slice_index_or rs i r) (HasRun (slice_index_or js i j))) → AllZip (λ j r. IfOk r (HasRun j)) js rs
  one_by_one [] [] size each = tt
  one_by_one [] (r ∷ rs) size each = absurd (omega (arith, size))
  one_by_one (j ∷ js) [] size each = absurd (omega (arith, size))
  one_by_one (j ∷ js) (r ∷ rs) size each = (each 0 j r (omega arith), one_by_one js rs (omega (arith, size)) (λ i k t lt. each (suc i) k t (omega (arith, lt))))

  pub all-ran : (js : List Job) (rs : List (Result Done E)) (ds : List Done) → length rs ≡ length js
      → ((i : ℕ) (j : Job) (r : Result Done E) → i < length js → IfOk (slice_index_or rs i r) (HasRun (slice_index_or js i j))) → map {B = Result Done E} (λ d. Ok d) ds ≡ rs → AllZip HasRun js ds
  all-ran js rs ds size each is = done E js ds (subst (λ (ts : List (Result Done E)). AllZip (λ j r. IfOk r (HasRun j)) js ts) (sym is) (one_by_one js rs size each))
