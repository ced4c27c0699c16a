use Rattle.std.proofs.lemmas.Result.{IfOk-weaker}
use Rattle.query_pool.proofs.Ran.{all-ran}
use Rattle.query_pool.proofs.jobs.run_jobs.Goals as goal

pub returns : goal.returns
returns g c = record {
  ran = IfOk-weaker c.all_done.result _ _ (λ dones is. all-ran c.args.jobs.items c.in_ok-results.results.items dones.items c.in_ok-results.ensures.count c.in_ok-results.ensures.ran is) c.all_done.ensures;
}
