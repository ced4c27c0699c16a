use Rattle.std.proofs.Common.{◌∙◌}
use Rattle.noise_ledger.specs.Verdicts.{parameters_of}
use Rattle.sender_core.specs.Kept.{start_of}
use Rattle.sender_core.specs.Tries.{job_of}
use Rattle.psi_follower.proofs.Warmed.{given-job, job-cacheable}
use Rattle.psi_follower.proofs.answering.warm_all.Goals as goal

pub warm-requires-clause-cacheable : goal.warm-requires-clause-cacheable
warm-requires-clause-cacheable g c _ _ =
    let h = c.loop.book in
    job-cacheable (parameters_of c.args.params.now) h (job_of c.in-One.task) c.in_ok-fetch_bare.ensures.consistent (c.loop.invariant.parameters ∙ c.requires.same)
    (given-job (start_of h) h.journal c.in_ok-fetch_bare.field-0 c.in-One.task c.in-One.is c.in_ok-fetch_bare.ensures.of_history)
