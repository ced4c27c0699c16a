-- What is of the history that a seat has seen stays so as the seat goes on.
use Rattle.std.proofs.Common.{ℕ, List, subst, sym, ap, ◌∙◌, arith, length-append}
use Rattle.psi_turnstile.specs.Counting.{IsPrefix}
use Rattle.psi_bundle.specs.declared.member.Member.{Member}
use Rattle.psi_bundle.specs.declared.history.Entry.{Entry}
use Rattle.psi_bundle.specs.Versions.{Version}
use Rattle.sender_core.specs.Kept.{View, RowSight, Job}
use Rattle.sender_core.specs.Stamps.{bundle_at}
use Rattle.sender_core.specs.Given.{IsViewOf, IsJobOf}
use Rattle.sender_core.specs.Events.{IsShown}
use Rattle.sender_core.specs.Tries.{Tried}
use Rattle.sender_core.proofs.StampHistories.{version-more}
use Rattle.sender_core.proofs.Interleaving.{view-more, job-more}
use Rattle.live_sender.specs.Tries.{IsNamed}

module _ (start : Version) (es fs : List Entry) (longer : IsPrefix es fs) where
  pub view-goes : {C : Type 0} (v : RowSight C) → IsViewOf start es v → IsViewOf start fs v
  view-goes v h = subst (λ (gs : List Entry). IsViewOf start gs v) (sym longer.1) (view-more start es longer.0 v h)

  pub job-goes : (t : Job) → IsJobOf start es t → IsJobOf start fs t
  job-goes t h = subst (λ (gs : List Entry). IsJobOf start gs t) (sym longer.1) (job-more start es longer.0 t h)

  pub shown-goes : {C : Type 0} (contents : C → List (List Member)) (is_under : C → List ℕ → Type 0) (s : View C) → IsShown contents is_under start es s → IsShown contents is_under start fs s
  shown-goes contents is_under s h = subst (λ (gs : List Entry). IsShown contents is_under start gs s) (sym longer.1) (
    omega (arith, h.0, length-append es longer.0),
    h.1 ∙ ap (λ (w : Version). w.rows) (sym (version-more start es longer.0 s.place h.0)),
    h.2,
  )

  pub named-goes : (r : Tried) → IsNamed start es r → IsNamed start fs r
  named-goes r h = subst (λ (gs : List Entry). IsNamed start gs r) (sym longer.1) (
    omega (arith, h.0, length-append es longer.0),
    (h.1.0, ap (λ (w : Version). bundle_at w.rows r.row r.index) (version-more start es longer.0 r.at h.0) ∙ h.1.1),
  )
