use Rattle.std.proofs.Common.{rules, ◌≤◌, ◌+◌, ◌++◌, arith, sym, ap, ◌∙◌, subst}
use Rattle.psi_turnstile.proofs.Keeps.{joins, checks}
use Rattle.psi_turnstile.specs.Counting.{times}
use Rattle.psi_turnstile.proofs.Sums.{apart_in}
use Rattle.psi_turnstile.proofs.turnstile.Turnstile.join.Goals as goal

pub join_seat-requires : goal.join_seat-requires
join_seat-requires g c = let i = c.seat.invariant.0 in let o = c.other.invariant.0 in
    (search rules, search rules, search rules, search rules, joins g.B.Kept.base g.B.Kept.entries _ _ _ _ i.0 o.0 i.2 o.2)

pub load-requires : goal.load-requires
load-requires g c = let i = c.seat.invariant.0 in let some_share = i.2 in let now = c.join_seat.ensures.2 in
    let more : 1 ≤ c.seat.inside.token.me.0.share + c.other.inside.token.me.0.share = omega arith in
    (search rules, search rules, checks g.B.Kept.base g.B.Kept.entries _ _ _ (ap (λ m. m.0.stage) now ∙ i.0, ap (λ m. m.1) now ∙ i.1, subst (λ m. 1 ≤ m.0.share) (sym now) more))

pub returns-clause-apart : goal.returns-clause-apart
returns-clause-apart g c = let now = c.join_seat.ensures.2 in let both = ap (λ m. m.0.own) now ∙ (λ i. (c.seat.view_is i).knows.own ++ (c.other.view_is i).knows.own) in let once = c.load.ensures.2.2.once in
    apart_in c.args.seat.now.knows.own c.args.other.knows.own (λ x. subst (λ ys. times x ys ≤ 1) both (once x))
