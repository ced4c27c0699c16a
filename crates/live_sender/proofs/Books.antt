-- What a book of some history shows, told by that history.
use Rattle.std.proofs.Common.{◌≡◌, ℕ, List, [], length, Option, Some, refl, sym, ap, ◌∙◌, subst, arith}
use Rattle.std.specs.Prelude.{slice_get, Result, IfOk}
use Rattle.std.proofs.lemmas.List.{length-map}
use Rattle.std.proofs.lemmas.Option.{same_Some}
use Rattle.std.proofs.lemmas.Result.{IfOk-weaker}
use Rattle.psi_residue.specs.Parameters.{Parameters}
use Rattle.psi_bundle.specs.declared.member.Member.{Member}
use Rattle.psi_bundle.specs.declared.history.Entry.{Entry}
use Rattle.psi_bundle.specs.Versions.{Version, IsSound}
use Rattle.psi_bundle.specs.Histories.{replay, version_at}
use Rattle.sender_core.specs.declared.install.Bare.{Bare}
use Rattle.sender_core.specs.declared.install.Bare.TheVariants.{All, One}
use Rattle.sender_core.specs.Kept.{Contents, View, Job, row_of, rows_of, version_of, kept_row, kept_at, CacheSuits, IsConsistent}
use Rattle.sender_core.specs.Stamps.{bundle_at}
use Rattle.sender_core.specs.Given.{IsJobOf, sight_of, bare_rows}
use Rattle.sender_core.specs.Installs.{IsBareOf}
use Rattle.sender_core.specs.Tries.{job_of}
use Rattle.sender_core.proofs.StampHistories.{version-all}
use Rattle.sender_core.proofs.Installing.{job-given}
use Rattle.live_sender.specs.declared.origin.Origin.{Origin}
use Rattle.live_sender.specs.Histories.{origin_of, first_version, IsHistory, IsBookOf}
use Rattle.live_sender.specs.Turns.{ShowsAt, IsGivenAt}
use Rattle.live_sender.specs.Tries.{IsStanding}

-- a bundle without a cache stands where its job says
standing : {C : Type 0} (h : Contents C) (n : ℕ) (t : Job) → slice_get (bare_rows 0 h.rows) n ≡ Some t
    → bundle_at (rows_of h.rows) t.row t.index ≡ Some (record { stamp = t.stamp; bins = t.bins })
standing {C = C} h n t e =
    let begun : Contents C = record h { journal = [] } in
    let given = job-given (version_of begun) begun n t refl e in
    let none : given.0 ≡ 0 = omega (arith, given.1) in
    ap (λ (k : ℕ). bundle_at (version_at (version_of begun) [] k).rows t.row t.index) (sym none) ∙ given.2

-- a bundle that stands is a task of its history
pub job-stands : (start : Version) (es : List Entry) (t : Job) → IsStanding start es t → IsJobOf start es t
job-stands start es t h = (length es, omega arith, ap (λ (v : Version). bundle_at v.rows t.row t.index) (version-all start es) ∙ h)

module _ {C : Type 0} (contents : C → List (List Member)) (is_under : C → List ℕ → Type 0) where
  pub history-of : (h : Contents C) → IsConsistent contents is_under h → IsHistory (origin_of h) h.journal
  history-of h is = record { begun = is.begun; few = is.few; legal = is.legal; sound = subst IsSound (sym is.replayed) is.sound; bytes = is.bytes.start; calls = is.bytes.calls }

  pub book-of : (h : Contents C) → IsConsistent contents is_under h → IsBookOf contents is_under (origin_of h) h.journal h
  book-of h is = record { consistent = is; origin = refl; history = refl }

  module _ (z : Origin) (es : List Entry) (h : Contents C) (b : IsBookOf contents is_under z es h) where
    -- the history leads to the book's version
    pub leads : replay (first_version z) es ≡ version_of h
    leads = (λ i. replay (first_version (sym b.origin i)) (sym b.history i)) ∙ b.consistent.replayed

    pub leads-to : version_at (first_version z) es (length es) ≡ version_of h
    leads-to = version-all (first_version z) es ∙ leads

    pub same-parameters : h.parameters ≡ z.parameters
    same-parameters = ap (λ (o : Origin). o.parameters) b.origin

    pub suits : (r u : ℕ) → CacheSuits contents is_under z.parameters (kept_at (kept_row h.rows r) u)
    suits r u = subst (λ (p : Parameters). CacheSuits contents is_under p (kept_at (kept_row h.rows r) u)) same-parameters (b.consistent.caches r u)

    pub each-row : length h.rows ≡ z.parameters.rows
    each-row = sym (length-map h.rows row_of) ∙ b.consistent.sound.each_row ∙ ap (λ (p : Parameters). p.rows) same-parameters

    pub shows : ShowsAt contents is_under z es (length es) (sight_of h)
    shows =
        let same = ap length b.history in
        record {
          at = same;
          shown = (omega (arith, same), sym (ap (λ (v : Version). v.rows) (ap (version_at (first_version z) es) same ∙ leads-to)), suits);
          rows = each-row;
        }

    pub stands : (t : Job) (n : ℕ) → slice_get (bare_rows 0 h.rows) n ≡ Some t → IsStanding (first_version z) es t
    stands t n e = ap (λ (v : Version). bundle_at v.rows t.row t.index) leads ∙ standing h n t e

    pub given : (skip : ℕ) (bare : Bare C) → IsBareOf h skip bare → IsGivenAt contents is_under z es bare
    given skip (All shown) is =
        (subst (ShowsAt contents is_under z es (length es)) (sym is.1) shows, ap (λ (s : View C). bare_rows 0 s.rows) is.1 ∙ is.0)
    given skip (One task) is = let stand = stands (job_of task) _ is in (stand, job-stands (first_version z) es (job_of task) stand)

  -- what a turn gave, told by the seat's base
  pub given-of : {E : Type 0} (y z : Origin) (known : Option Origin) (es : List Entry) (skip : ℕ) (r : Result (Bare C) E) → known ≡ Some y → known ≡ Some z
      → IfOk r (λ bare. (h : Contents C) × IsBookOf contents is_under y es h × IsBareOf h skip bare) → IfOk r (IsGivenAt contents is_under z es)
  given-of y z known es skip r is_y is_z =
      let same : y ≡ z = same_Some y z (sym is_y ∙ is_z) in
      IfOk-weaker r _ _ (λ bare b. subst (λ (o : Origin). IsGivenAt contents is_under o es bare) same (given y es b.0 b.1 skip bare b.2))
