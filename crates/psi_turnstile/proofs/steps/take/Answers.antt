use Rattle.std.proofs.Common.{rules, ◌∷◌, sym, ap, ◌∙◌, Some}
use Rattle.atomic_table.specs.Table.{rest}
use Rattle.psi_turnstile.proofs.Keeps.{goes_in}
use Rattle.psi_turnstile.proofs.steps.take.Goals as goal

pub load-requires : goal.load-requires
load-requires g c = (search rules, search rules, goes_in g.B.Kept.base g.B.Kept.entries _ _ _ c.requires.ahead)

pub exchange-requires : goal.exchange-requires
exchange-requires g c = let went = c.load.ensures.2 c.requires.ahead.0 c.requires.ahead.1 in let hand = ap (λ m. m.1) went.1 in
    (search rules, (Some went.0, hand ∙ ap (λ cs. (0, Some went.0) ∷ rest cs) (sym hand)))
