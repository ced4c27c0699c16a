use Rattle.std.proofs.Common.{rules, ◌≡◌, ◌^◌, ap, sym, ◌∙◌, subst, IsSome}
use mathlib.Core.Option.{some-injective}
use Rattle.psi_turnstile.proofs.Keeps.{closes, closes_with}
use Rattle.psi_turnstile.proofs.turnstile.Turnstile.close.Goals as goal

pub unwrap-requires : goal.unwrap-requires
unwrap-requires g c = let whole = subst (λ h. h.knows.share ≡ 2 ^ 32) (sym c.seat.view_is) c.requires.whole in
    let end = closes g.B.Kept.base g.B.Kept.entries _ c.seat.inside.token.me.0 c.seat.invariant.0.0 whole _ _ c.close_with-closed.ensures.values.2 in
    subst IsSome (some-injective _ _ (sym end.1 ∙ c.take-book.ensures.value)) (search rules)

pub returns-clause-base : goal.returns-clause-base
returns-clause-base g c = (closes_with g.B.Kept.base g.B.Kept.entries _ c.seat.inside.token.me.0 c.args.seat.knows (ap (λ h. h.knows) c.seat.view_is) c.seat.invariant.0.0 c.requires.whole _ _ c.close_with-closed.ensures.values.2
    _ _ c.take-book.ensures.value c.unwrap.ensures).0

pub returns-clause-follows : goal.returns-clause-follows
returns-clause-follows g c = (closes_with g.B.Kept.base g.B.Kept.entries _ c.seat.inside.token.me.0 c.args.seat.knows (ap (λ h. h.knows) c.seat.view_is) c.seat.invariant.0.0 c.requires.whole _ _ c.close_with-closed.ensures.values.2
    _ _ c.take-book.ensures.value c.unwrap.ensures).1

pub returns-clause-places : goal.returns-clause-places
returns-clause-places g c = (closes_with g.B.Kept.base g.B.Kept.entries _ c.seat.inside.token.me.0 c.args.seat.knows (ap (λ h. h.knows) c.seat.view_is) c.seat.invariant.0.0 c.requires.whole _ _ c.close_with-closed.ensures.values.2
    _ _ c.take-book.ensures.value c.unwrap.ensures).2
