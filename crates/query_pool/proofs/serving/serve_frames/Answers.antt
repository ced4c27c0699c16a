use Rattle.std.proofs.Common.{refl}
use Rattle.query_pool.specs.Inner.Runs.{progress_of}
use Rattle.query_pool.proofs.Leaving.{served-by}
use Rattle.query_pool.proofs.Once.{bad-told, good-told}
use Rattle.query_pool.proofs.serving.serve_frames.Goals as goal

pub returns-clause-served : goal.returns-clause-served
returns-clause-served g c =
    let leaves = rw c.new-run.ensures.server at c.serve_all.ensures in
    served-by _ _ _ (progress_of c.serve_all.new.self) c.serve_all.result _ c.status_of-status.ensures refl refl leaves

pub returns-clause-good : goal.returns-clause-good
returns-clause-good g c = good-told _ _ _ _ (returns-clause-served g c)

pub returns-clause-bad : goal.returns-clause-bad
returns-clause-bad g c = bad-told _ _ _ _ (returns-clause-served g c)
