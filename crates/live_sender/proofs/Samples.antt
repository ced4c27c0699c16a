-- Steps of the worked examples.
use Rattle.std.proofs.Common.{◌≡◌, List, ◌++◌, Option, Some, subst, ap, ◌∙◌, append_assoc}
use Rattle.std.specs.Prelude.{IfSome}
use Rattle.psi_turnstile.specs.Counting.{IsPrefix}
use Rattle.psi_bundle.specs.declared.history.Entry.{Entry}
use Rattle.psi_bundle.specs.Versions.{Version}
use Rattle.sender_core.specs.declared.task.Task.{Task}
use Rattle.sender_core.specs.Kept.{RowSight}
use Rattle.sender_core.specs.Given.{IsViewOf, IsJobOf}
use Rattle.sender_core.specs.Tries.{job_of}
use Rattle.live_sender.proofs.Going.{view-goes, job-goes}

-- a view that was given
pub view-here : {C : Type 0} (start : Version) (es : List Entry) (o : Option (RowSight C)) (v : RowSight C) → IfSome o (IsViewOf start es) → o ≡ Some v → IsViewOf start es v
view-here start es o v given is = subst (λ (p : Option _). IfSome p (IsViewOf start es)) is given

-- a task that was given
pub task-here : (start : Version) (es : List Entry) (o : Option Task) (t : Task) → IfSome o (λ task. IsJobOf start es (job_of task)) → o ≡ Some t → IsJobOf start es (job_of t)
task-here start es o t given is = subst (λ (p : Option Task). IfSome p (λ task. IsJobOf start es (job_of task))) is given

module _ (start : Version) (es fs : List Entry) where
  -- a view that was given is of the longer history
  pub view-given : {C : Type 0} (o : Option (RowSight C)) (v : RowSight C) → IfSome o (IsViewOf start es) → o ≡ Some v → IsPrefix es fs → IsViewOf start fs v
  view-given o v given is longer = view-goes start es fs longer v (view-here start es o v given is)

  -- a task that was given is of the longer history
  pub task-given : (o : Option Task) (t : Task) → IfSome o (λ task. IsJobOf start es (job_of task)) → o ≡ Some t → IsPrefix es fs → IsJobOf start fs (job_of t)
  task-given o t given is longer = job-goes start es fs longer (job_of t) (task-here start es o t given is)
