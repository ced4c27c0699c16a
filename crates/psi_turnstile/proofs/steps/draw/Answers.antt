use Rattle.std.proofs.Common.{rules}
use Rattle.psi_turnstile.proofs.Keeps.{draws}
use Rattle.psi_turnstile.proofs.steps.draw.Goals as goal

pub fetch_add-requires : goal.fetch_add-requires
fetch_add-requires g c = (search rules, search rules, draws g.B.Kept.base g.B.Kept.entries _ _ _ c.requires.free)
