use Rattle.std.proofs.Common.{rules, ◌≤◌, sym, subst}
use Rattle.psi_turnstile.proofs.Keeps.{splits}
use Rattle.psi_turnstile.proofs.turnstile.Turnstile.split.Goals as goal

pub split_seat-token-requires : goal.split_seat-token-requires
split_seat-token-requires g c = (
  search rules,
  search rules,
  splits g.B.Kept.base g.B.Kept.entries _ _ c.seat.invariant.0.0 (subst (λ h. 2 ≤ h.knows.share) (sym c.seat.view_is) c.requires.two),
)
