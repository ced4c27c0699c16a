use Rattle.query_pool.proofs.jobs.build.Goals as goal

pub returns-clause-went : goal.returns-clause-went
returns-clause-went g c = λ z s.
    let went = c.build_some-built.ensures.went z (record { base = s.base; taken = s.taken; history = s.history }) in
    record { follows = went.follows; keeps = went.keeps; history = went.history }
