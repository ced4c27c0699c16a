use Rattle.std.proofs.Common.{◌∙◌, subst, Some}
use Rattle.psi_serve.specs.Serving.{HasServedFrom}
use Rattle.psi_serve.proofs.Fewer.{entries-along, entries-none, entries-some}
use Rattle.psi_serve.proofs.one_set.OneSetServer.entries.Goals as goal

pub returns-in-Some : goal.returns-in-Some
returns-in-Some g c = λ rounds sents waiting state. entries-some _ _ _ _ _ _ c.in-Some.is c.count.ensures.number state.1

pub returns-in-None : goal.returns-in-None
returns-in-None g c = λ rounds sents waiting state. entries-none _ _ _ _ c.in-None.is state.1
