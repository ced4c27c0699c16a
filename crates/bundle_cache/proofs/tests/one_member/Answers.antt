use Rattle.std.proofs.Common.{◌≡◌, ◌∙◌, ◌++◌, ◌∷◌, [], ◌*◌, ℕ, List, true, set, length, ap, sym, subst, arith}
use Rattle.std.proofs.lemmas.List.{length-take-le}
use Rattle.std.proofs.lemmas.Result.{IfOk-weaker}
use Rattle.noise_ledger.specs.Verdicts.{parameters_of}
use Rattle.psi_bundle.specs.declared.member.Member.{Member}
use Rattle.psi_bundle.specs.Bins.{empty_bins}
use Rattle.bundle_cache.specs.Caches.{IsCacheable}
use Rattle.bundle_cache.proofs.Cacheable.{cacheable-empty, cacheable-more}
use Rattle.bundle_cache.proofs.tests.one_member.Goals as goal

pub returns-in-Some : goal.returns-in-Some
returns-in-Some c =
    let p = parameters_of c.args.params.now in
    let empty = subst (IsCacheable p) (sym c.in_ok-empty.ensures) (cacheable-empty p) in
    IfOk-weaker c.add.result _ _ (λ bundle e. subst (IsCacheable p) (sym e) (cacheable-more p c.in_ok-empty.empty 7 _ empty (sym c.accepts.ensures ∙ c.if-accepts.true) (ap length c.in-Some.ensures.shown ∙ length-take-le (10 * c.from.result) (9 ∷ 8 ∷ 7 ∷ 6 ∷ 5 ∷ 4 ∷ 3 ∷ 2 ∷ 1 ∷ 0 ∷ []) (omega (arith, c.from.ensures, c.requires)) ∙ ap (λ (n : ℕ). 10 * n) c.from.ensures))) c.add.ensures

pub returns-in_default : goal.returns-in_default
returns-in_default c = subst (IsCacheable (parameters_of c.args.params.now)) (sym c.in_ok-empty.ensures) (cacheable-empty (parameters_of c.args.params.now))
