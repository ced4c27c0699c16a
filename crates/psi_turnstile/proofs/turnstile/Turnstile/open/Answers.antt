use Rattle.std.proofs.Common.{rules}
use Rattle.psi_turnstile.proofs.Keeps.{opens_with}
use Rattle.psi_turnstile.proofs.turnstile.Turnstile.open.Goals as goal

pub new-requires : goal.new-requires
new-requires g c = opens_with g.B.Kept.base g.B.Kept.entries c.args.book _ _ _ (search rules) (search rules) (search rules)
