use Rattle.std.proofs.Common.{◌∙◌, ◌<◌, ◌%◌, ap, subst, List, Vec, Global, arith}
use Rattle.std.proofs.lemmas.Bool.Decides.{nat_tests}
use Rattle.psi_bundle.specs.declared.cached.Shown.{Shown}
use Rattle.sender_core.specs.Kept.{Contents, start_of}
use Rattle.sender_core.specs.States.{contents_of}
use Rattle.sender_core.specs.Shown.{kept_of_rows}
use Rattle.sender_core.specs.Given.{IsJobOf, bare_rows}
use Rattle.sender_core.specs.Tries.{job_of}
use Rattle.sender_core.proofs.Installing.{task-given}
use Rattle.sender_core.proofs.book.Book.fetch_bare.Goals as goal

pub returns-clause-of_history : goal.returns-clause-of_history
returns-clause-of_history g c =
    let h : Contents g.row.C.Denot = contents_of c.self.inside.state in
    let tasks = c.in_ok-tasks.tasks in
    let some : 0 < c.len.result = grind (arith, nat_tests) in
    let are = c.in_ok-tasks.ensures ∙ ap (λ (items : List (Vec (Shown g.row.C.Denot) Global)). bare_rows 0 (kept_of_rows items)) c.deref.ensures.value in
    subst (λ (k : Contents g.row.C.Denot). IsJobOf (start_of k) k.journal (job_of c.swap_remove-task.result)) c.self.view_is
    (task-given h tasks.items c.len.result (c.from.result % c.len.result) c.swap_remove-task.result c.self.invariant.replayed are (omega (arith, c.len.ensures, tasks.ok.0)) (omega arith)
    c.swap_remove-task.ensures.value)
