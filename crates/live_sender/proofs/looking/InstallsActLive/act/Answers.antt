use Rattle.std.proofs.Common.{◌∙◌, sym}
use Rattle.sender_core.specs.Tries.{job_of}
use Rattle.live_sender.proofs.Trying.{installs}
use Rattle.live_sender.proofs.looking.InstallsActLive.act.Goals as goal

pub returns-clause-does : goal.returns-clause-does
returns-clause-does g c =
    installs g.C.Cached.contents g.C.Cached.is_under c.live.inside.book c.args.live.now c.install.new.self (job_of c.args.self.now.task.now) c.unwrap-cache.result c.args.self.now.cache c.install.result
    c.live.view_is c.know.ensures (sym c.take.ensures.value ∙ c.unwrap-cache.ensures) c.requires.0 c.install.ensures.put_in c.install.ensures.told c.install.ensures.kept
