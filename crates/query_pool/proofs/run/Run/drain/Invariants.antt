use Rattle.std.proofs.Common.{◌≡◌, ℕ, List, length}
use Rattle.noise_ledger.specs.Verdicts.{parameters_of}
use Rattle.query_pool.specs.Inner.Runs.{IsStanding, Mark, Stands, progress_of}
use Rattle.query_pool.proofs.run.Run.drain.Given as goal

-- the run stands, behind the same bytes as when the loop began
abbrev pub invariant-loop-frame : goal.invariant-loop-frame
invariant-loop-frame g l =
    let p = parameters_of l.params in
    let rule = g.A.Server.rule (g.A.Server.kind l.initial.self.server) in
    let old = g.K.Sink.told l.initial.sink in
    let new = g.K.Sink.told l.sink in
    record {
      standing : IsStanding rule (g.A.Server.state l.self.server) l.feed (progress_of l.self) new;
      goes : (mark : Mark) (bytes : List ℕ) → Stands rule (g.A.Server.state l.initial.self.server) mark bytes l.initial.feed (progress_of l.initial.self) old
          → Stands rule (g.A.Server.state l.self.server) mark bytes l.feed (progress_of l.self) new;
      fault : l.feed.fault ≡ l.initial.feed.fault;
      under : g.A.Server.is_under l.self.server p;
      kind : g.A.Server.kind l.self.server ≡ g.A.Server.kind l.initial.self.server;
    }

-- each turn takes one of the frames
abbrev pub decreases-loop-frame : goal.decreases-loop-frame
decreases-loop-frame g l = length l.feed.ready
