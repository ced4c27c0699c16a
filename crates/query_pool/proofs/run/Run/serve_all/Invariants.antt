use Rattle.std.proofs.Common.{◌≡◌}
use Rattle.noise_ledger.specs.Verdicts.{parameters_of}
use Rattle.psi_outside.specs.Ends.{ends}
use Rattle.query_pool.specs.Inner.Runs.{IsHearing, progress_of}
use Rattle.query_pool.proofs.run.Run.serve_all.Given as goal

-- the run stands behind the bytes that were read
abbrev pub invariant-loop-self : goal.invariant-loop-self
invariant-loop-self g l =
    let old = ends (g.S.Source.told l.initial.source) (g.K.Sink.told l.initial.sink) in
    let new = ends (g.S.Source.told l.source) (g.K.Sink.told l.sink) in
    record {
      hearing : IsHearing (g.A.Server.rule (g.A.Server.kind l.initial.self.server)) (g.A.Server.state l.self.server) old new l.feed (progress_of l.self) l.room;
      under : g.A.Server.is_under l.self.server (parameters_of l.params);
      kind : g.A.Server.kind l.self.server ≡ g.A.Server.kind l.initial.self.server;
    }

-- each turn takes a byte at least
abbrev pub decreases-loop-self : goal.decreases-loop-self
decreases-loop-self g l = l.room
