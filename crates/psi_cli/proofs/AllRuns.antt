-- What a run of the program leaves, by whether its words ask for several threads.
use Rattle.std.proofs.Common.{◌≡◌, ℕ, nat_eq, subst}
use Rattle.psi_residue.specs.Parameters.{Parameters}
use Rattle.psi_cli.specs.declared.threaded.Threaded.{Threaded}
use Rattle.psi_cli.specs.declared.threaded.Threaded.TheVariants as threaded
use Rattle.psi_cli.specs.Kinds.{Kind, Lanes}
use Rattle.psi_cli.specs.Inner.Threads.{AsksThreads, AsksNoThreads, RunsThreads}
use Rattle.psi_cli.specs.Runs.{Runs, RunsPlain, RunsRounds, Shows}
use Rattle.psi_cli.specs.Worlds.{World, ends_of}

pub threads_run : (k : Kind) (asked : Threaded) (old new : World) (n : ℕ) → AsksThreads k asked
    → RunsThreads asked (ends_of old) (ends_of new) n → new.given.files ≡ old.given.files → Runs k old new n
threads_run (Kind.Rounds p (Lanes.Threads workers builders)) (threaded.Serve params shape) old new n is runs file =
    record {
      rounds = subst (λ (w : ℕ). RunsRounds p (nat_eq w 1) (ends_of old) (ends_of new) n) is.1
          (subst (λ (q : Parameters). RunsRounds q (nat_eq shape.workers 1) (ends_of old) (ends_of new) n) is.0 runs);
      no_file = file;
    }
threads_run (Kind.Demonstration number workers) (threaded.Demo asked own) old new n is runs file =
    record {
      shows = subst (λ (w : ℕ). Shows number w (ends_of old) (ends_of new) n) is.1
          (subst (λ (k : ℕ). Shows k own (ends_of old) (ends_of new) n) is.0 runs);
      no_file = file;
    }
threads_run (Kind.Rounds p (Lanes.Threads workers builders)) (threaded.Demo asked own) old new n is runs file = absurd is
threads_run (Kind.Demonstration number workers) (threaded.Serve params shape) old new n is runs file = absurd is
threads_run (Kind.Rounds p Lanes.OneThread) asked old new n is runs file = absurd is
threads_run (Kind.Reads reader) asked old new n is runs file = absurd is
threads_run (Kind.Figures p) asked old new n is runs file = absurd is
threads_run Kind.Help asked old new n is runs file = absurd is
threads_run Kind.NoCommand asked old new n is runs file = absurd is

pub other_runs : (k : Kind) (old new : World) (n : ℕ) → AsksNoThreads k → RunsPlain k old new n → Runs k old new n
other_runs (Kind.Rounds p Lanes.OneThread) old new n is runs = runs
other_runs (Kind.Rounds p (Lanes.Threads workers builders)) old new n is runs = absurd is
other_runs (Kind.Reads reader) old new n is runs = runs
other_runs (Kind.Figures p) old new n is runs = runs
other_runs (Kind.Demonstration number workers) old new n is runs = absurd is
other_runs Kind.Help old new n is runs = runs
other_runs Kind.NoCommand old new n is runs = runs
