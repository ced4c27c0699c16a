-- What words ask of several threads, and what that leaves.
use Rattle.std.specs.Prelude.{◌≡◌, ℕ, ◌≤◌, ⊤}
use Rattle.psi_residue.specs.Parameters.{Parameters}
use Rattle.noise_ledger.specs.Verdicts.{parameters_of}
use Rattle.psi_outside.specs.Ends.{Ends}
use Rattle.psi_cli.specs.declared.threaded.Threaded.{Threaded}
use Rattle.psi_cli.specs.declared.threaded.Threaded.TheVariants as threaded
use Rattle.psi_cli.specs.Kinds.{Kind, Lanes, is_alone}
use Rattle.psi_cli.specs.Runs.{RunsRounds, Shows}

-- the threads that rounds ask for
abbrev pub AsksLanes : Parameters → (workers builders : ℕ) → Threaded → Type 0
AsksLanes p workers builders (threaded.Serve params shape) =
    (parameters_of params ≡ p) × (shape.workers ≡ workers) × (shape.builders ≡ builders)
AsksLanes p workers builders (threaded.Demo asked own) = ⊥

-- the threads that the demonstration asks for
abbrev pub AsksDemo : (number workers : ℕ) → Threaded → Type 0
AsksDemo number workers (threaded.Serve params shape) = ⊥
AsksDemo number workers (threaded.Demo asked own) = (asked ≡ number) × (own ≡ workers)

-- the words ask for it
abbrev pub AsksThreads : Kind → Threaded → Type 0
AsksThreads (Kind.Rounds p Lanes.OneThread) asked = ⊥
AsksThreads (Kind.Rounds p (Lanes.Threads workers builders)) asked = AsksLanes p workers builders asked
AsksThreads (Kind.Reads reader) asked = ⊥
AsksThreads (Kind.Figures p) asked = ⊥
AsksThreads (Kind.Demonstration number workers) asked = AsksDemo number workers asked
AsksThreads Kind.Help asked = ⊥
AsksThreads Kind.NoCommand asked = ⊥

-- they ask for something else
abbrev pub AsksNoThreads : Kind → Type 0
AsksNoThreads (Kind.Rounds p Lanes.OneThread) = ⊤
AsksNoThreads (Kind.Rounds p (Lanes.Threads workers builders)) = ⊥
AsksNoThreads (Kind.Reads reader) = ⊤
AsksNoThreads (Kind.Figures p) = ⊤
AsksNoThreads (Kind.Demonstration number workers) = ⊥
AsksNoThreads Kind.Help = ⊤
AsksNoThreads Kind.NoCommand = ⊤

-- there are 1 to 8 workers and at most 4 builders
abbrev pub IsAllowed : Threaded → Type 0
IsAllowed (threaded.Serve params shape) = (1 ≤ shape.workers) × (shape.workers ≤ 8) × (shape.builders ≤ 4)
IsAllowed (threaded.Demo number workers) = (1 ≤ workers) × (workers ≤ 8)

-- what it leaves; no file is read
abbrev pub RunsThreads : Threaded → (old new : Ends) → ℕ → Type 0
RunsThreads (threaded.Serve params shape) old new n =
    RunsRounds (parameters_of params) (is_alone (Lanes.Threads shape.workers shape.builders)) old new n
RunsThreads (threaded.Demo number workers) old new n = Shows number workers old new n
