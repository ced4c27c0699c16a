use Rattle.std.proofs.Common.{◌≡◌, sym, subst}
use Rattle.std.specs.Prelude.{OnOk, OnErr, Result, Ok, Err}
use Rattle.psi_residue.specs.Parameters.{parameter_bytes}
use Rattle.sender_core.specs.Kept.{Contents, start_of, IsConsistent}
use Rattle.sender_core.specs.States.{contents_of}
use Rattle.sender_core.specs.Given.{IsJobOf}
use Rattle.sender_core.specs.Tries.{job_of}
use Rattle.sender_core.specs.Installs.{installed}
use Rattle.sender_core.proofs.Consistency.{ready}
use Rattle.sender_core.proofs.Installing.{job-row, consistent-installed}
use Rattle.sender_core.proofs.book.Book.install.Goals as goal

pub install-requires-clause-ready : goal.install-requires-clause-ready
install-requires-clause-ready g c = ready g.C.Cached.contents g.C.Cached.is_under (contents_of c.self.inside.state) c.self.invariant

pub install-requires-clause-in_range : goal.install-requires-clause-in_range
install-requires-clause-in_range g c =
    let h : Contents g.row.C.Denot = contents_of c.self.inside.state in
    job-row (start_of h) h.journal (job_of c.args.task.now) c.self.invariant.begun
    (subst (λ (k : Contents g.row.C.Denot). IsJobOf (start_of k) k.journal (job_of c.args.task.now)) (sym c.self.view_is) c.requires.of_history)

-- as it is after the call
by_result : {T E : Type 0} {C : Type 0} (P : Contents C → Type 0) (r : Result T E) (old put new : Contents C) → P old → P put → OnOk r (new ≡ put) → OnErr r (new ≡ old) → P new
by_result P (Ok t) old put new was after is kept = subst P (sym is) after
by_result P (Err e) old put new was after is kept = subst P (sym kept) was

pub invariant_of-self : goal.invariant_of-self
invariant_of-self g c =
    let h : Contents g.row.C.Denot = contents_of c.self.inside.state in
    let job = job_of c.args.task.now in
    let given = subst (λ (k : Contents g.row.C.Denot). IsJobOf (start_of k) k.journal job) (sym c.self.view_is) c.requires.of_history in
    let under = subst (λ (k : Contents g.row.C.Denot). g.C.Cached.is_under c.args.cache (parameter_bytes k.parameters)) (sym c.self.view_is) c.requires.same_parameters in
    by_result (IsConsistent g.C.Cached.contents g.C.Cached.is_under) c.install.result h (installed h job c.args.cache) (contents_of c.install.new.self) c.self.invariant
    (consistent-installed g.C.Cached.contents g.C.Cached.is_under h job c.args.cache c.self.invariant given c.requires.same_bins under) c.install.ensures.put_in c.install.ensures.kept
