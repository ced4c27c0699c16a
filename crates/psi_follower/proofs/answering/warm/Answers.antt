use Rattle.std.proofs.Common.{sym, subst}
use Rattle.sender_core.specs.Tries.{job_of}
use Rattle.psi_follower.specs.Inner.Warming.{HasOtherCaches}
use Rattle.psi_follower.proofs.Warmed.{installed-book}
use Rattle.psi_follower.proofs.answering.warm.Goals as goal

pub returns : goal.returns
returns g c = record { kept = subst (HasOtherCaches c.args.book.now) (sym c.in_ok-install.ensures.put_in) (installed-book c.args.book.now (job_of c.args.task.now) c.in_ok-cache.cache) }
