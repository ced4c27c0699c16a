use Rattle.std.proofs.Common.{rules, ◌^◌, ◌<◌, length, sym, subst}
use Rattle.psi_turnstile.specs.Telling.{Grows}
use Rattle.psi_turnstile.proofs.Keeps.{counts}
use Rattle.psi_turnstile.proofs.steps.note.Goals as goal

pub fetch_add-requires : goal.fetch_add-requires
fetch_add-requires g c = (
  search rules,
  search rules,
  counts g.B.Kept.base g.B.Kept.entries _ _ _ c.args.added g.N.News.log c.requires.inside (subst (Grows c.args.token.now.me.0.seen c.args.added) (sym c.requires.news) c.requires.grows)
      (subst (λ l. length l < 2 ^ 64) (sym c.requires.news) c.requires.fits),
)
