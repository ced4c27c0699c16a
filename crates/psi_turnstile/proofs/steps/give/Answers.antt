use Rattle.std.proofs.Common.{rules, ◌≤◌, ◌∷◌, sym, ap, ◌∙◌, subst, Some}
use Rattle.atomic_table.specs.Table.{rest}
use Rattle.psi_turnstile.proofs.Keeps.{leaves}
use Rattle.psi_turnstile.proofs.steps.give.Goals as goal

pub fetch_add-requires : goal.fetch_add-requires
fetch_add-requires g c = let now = c.exchange-empty.ensures.3 in let was = c.requires.inside in (
  search rules,
  search rules,
  leaves g.B.Kept.base g.B.Kept.entries _ _ _ c.args.book
      (was.0, ap (λ m. m.0.stage) now ∙ was.1, ap (λ m. m.1) now ∙ ap (λ cs. (0, Some c.args.book) ∷ rest cs) was.2, subst (λ m. 1 ≤ m.0.share) (sym now) was.3)
      (ap (λ m. m.0.base) now ∙ c.requires.base) (ap (λ m. m.0.seen) now ∙ c.requires.entries),
)
