-- A cache that comes back to a book of some history.
use Rattle.std.proofs.Common.{◌≡◌, ◌≢◌, ℕ, ◌≤◌, ◌⊎◌, inl, inr, Bool, true, false, nat_eq, List, length, Option, Some, None, refl, sym, ap, ◌∙◌, subst, arith}
use Rattle.std.specs.Prelude.{slice_get, if◌then◌else◌, Result, Ok, Err, IfOk, OnOk, OnErr}
use Rattle.std.proofs.lemmas.List.{length-map}
use Rattle.std.proofs.lemmas.Bool.{eqb-false}
use Rattle.std.proofs.lemmas.Result.{IfOk-weaker}
use Rattle.std.proofs.lemmas.Option.{none-some, same_Some, slice_get_cases}
use Rattle.psi_bundle.specs.declared.member.Member.{Member}
use Rattle.psi_bundle.specs.declared.history.Entry.{Entry}
use Rattle.psi_bundle.specs.Versions.{Version, Stamped, row_at}
use Rattle.psi_bundle.specs.Histories.{replay}
use Rattle.sender_core.specs.declared.receipt.Now.{Now}
use Rattle.sender_core.specs.declared.receipt.Now.TheVariants.{Gone, Stamp}
use Rattle.sender_core.specs.declared.install.Install.{Install}
use Rattle.sender_core.specs.declared.install.Install.TheVariants.{Installed, Stale}
use Rattle.sender_core.specs.Kept.{Kept, Contents, Job, stamped_of, start_of, kept_row, IsStart, IsConsistent}
use Rattle.sender_core.specs.Stamps.{bundle_at}
use Rattle.sender_core.specs.Given.{IsJobOf}
use Rattle.sender_core.specs.Tries.{instead_of, now_at}
use Rattle.sender_core.specs.Installs.{installed_by, installed, answer_by, receipt_of, install_answer}
use Rattle.sender_core.proofs.RowLists.{row-alone}
use Rattle.sender_core.proofs.StampHistories.{version-all, equal-stamps}
use Rattle.sender_core.proofs.Installing.{found-at, bundle-at}
use Rattle.live_sender.specs.declared.origin.Origin.{Origin}
use Rattle.live_sender.specs.Histories.{origin_of, first_version, IsHistory, IsBookOf}
use Rattle.live_sender.specs.Acts.{Stays}
use Rattle.live_sender.specs.Tries.{IsStanding, HasInstead, IsTriedAt, receipt_at, IsNamed, NamesIfInstalled}
use Rattle.live_sender.proofs.Books.{history-of, book-of, leads}

-- what stands there in place of a bundle with this stamp
instead-by : {C : Type 0} (stamp len : ℕ) (o : Option (Kept C)) (n : Now) → instead_of stamp len o ≡ Some n
    → ((o ≡ None) × (n ≡ Gone len)) ⊎ ((k : Kept C) × (o ≡ Some k) × (k.stamp ≢ stamp) × (n ≡ Stamp k.stamp))
instead-by {C = C} stamp len None n e = inl (refl, sym (same_Some (Gone len) n e))
instead-by {C = C} stamp len (Some k) n e = by (nat_eq k.stamp stamp) refl e
  where
    by : (t : Bool) → nat_eq k.stamp stamp ≡ t → (if t then None else Some (Stamp k.stamp)) ≡ Some n
        → ((Some k ≡ None) × (n ≡ Gone len)) ⊎ ((x : Kept C) × (Some k ≡ Some x) × (x.stamp ≢ stamp) × (n ≡ Stamp x.stamp))
    by true is e = absurd (none-some n e)
    by false is e = inr (k, refl, eqb-false k.stamp stamp is, sym (same_Some (Stamp k.stamp) n e))

module _ {C : Type 0} (contents : C → List (List Member)) (is_under : C → List ℕ → Type 0) (z : Origin) (es : List Entry) (h : Contents C) (b : IsBookOf contents is_under z es h) where
  -- a bundle of the book, told by the history
  here : (t : Job) (k : Kept C) → slice_get (kept_row h.rows t.row) t.index ≡ Some k → bundle_at (replay (first_version z) es).rows t.row t.index ≡ Some (stamped_of k)
  here t k e = ap (λ (v : Version). bundle_at v.rows t.row t.index) (leads contents is_under z es h b) ∙ bundle-at h.rows t.row t.index k e

  -- the length of a row, told by the history
  row-length : (r : ℕ) → length (kept_row h.rows r) ≡ length (row_at (replay (first_version z) es).rows r)
  row-length r =
      sym (ap (λ (v : Version). length (row_at v.rows r)) (leads contents is_under z es h b) ∙ ap length (row-alone h.rows r) ∙ length-map (kept_row h.rows r) stamped_of)

  still-stands : (t : Job) → IsJobOf (first_version z) es t → now_at h.rows t ≡ None → IsStanding (first_version z) es t
  still-stands t job e =
      let found = found-at h.rows t e in
      let k = found.0 in
      let was : Stamped = record { stamp = t.stamp; bins = t.bins } in
      let begun : IsStart (first_version z) = subst (λ (o : Origin). IsStart (first_version o)) b.origin b.consistent.begun in
      let now = ap (λ (v : Version). bundle_at v.rows t.row t.index) (version-all (first_version z) es) ∙ here t k found.1 in
      here t k found.1 ∙ ap Some (equal-stamps (first_version z) es begun (length es) job.0 t.row t.index (stamped_of k) was now job.2 found.2)

  something-else : (t : Job) (n : Now) → now_at h.rows t ≡ Some n → HasInstead (first_version z) es t n
  something-else t n e =
      let row = kept_row h.rows t.row in
      elim (instead-by t.stamp (length row) (slice_get row t.index) n e) [
        | inl gone ↦
            let past : length row ≤ t.index = elim (slice_get_cases row t.index).1 [ inl within ↦ absurd (none-some within.0 (sym gone.0 ∙ within.2)) | inr is ↦ is.0 ] in
            subst (HasInstead (first_version z) es t) (sym gone.1) (row-length t.row, past)
        | inr other ↦ subst (HasInstead (first_version z) es t) (sym other.3) (other.2, (other.0.bins, here t other.0 other.1))
      ]

  pub tried : (t : Job) (c : C) → IsJobOf (first_version z) es t → IsTriedAt (first_version z) es t c (install_answer h t c)
  tried t c job = by (now_at h.rows t) refl
    where
      receipt : (o : Option Now) → now_at h.rows t ≡ o → receipt_of h t ≡ receipt_at es t o
      receipt o e = λ i. record { row = t.row; index = t.index; stamp = t.stamp; at = length (b.history i); instead = e i }

      by : (o : Option Now) → now_at h.rows t ≡ o → IsTriedAt (first_version z) es t c (answer_by o (receipt_of h t) c)
      by None e = (receipt None e, still-stands t job e)
      by (Some n) e = (refl, (n, receipt (Some n) e, something-else t n e))

-- the receipt of a cache that was put in names a bundle of its history
pub named : {C : Type 0} (start : Version) (es : List Entry) (t : Job) (c : C) (answer : Install C) → IsTriedAt start es t c answer → NamesIfInstalled start es answer
named start es t c (Installed receipt) is =
    let there : IsNamed start es (receipt_at es t None) = (omega arith, (t.bins, ap (λ (v : Version). bundle_at v.rows t.row t.index) (version-all start es) ∙ is.1)) in
    subst (IsNamed start es) (sym is.0) there
named start es t c (Stale receipt cache) is = tt

-- a cache that is put in changes neither the origin nor the history
pub same-history : {C : Type 0} (h : Contents C) (t : Job) (c : C) → (origin_of (installed h t c) ≡ origin_of h) × ((installed h t c).journal ≡ h.journal)
same-history {C = C} h t c = by (now_at h.rows t)
  where
    by : (o : Option Now) → (origin_of (installed_by o h t c) ≡ origin_of h) × ((installed_by o h t c).journal ≡ h.journal)
    by None = (refl, refl)
    by (Some n) = (refl, refl)

module _ {C : Type 0} (contents : C → List (List Member)) (is_under : C → List ℕ → Type 0) where
  -- what a try does to the book h, and tells
  abbrev Installs : {E : Type 0} → (h new : Contents C) (t : Job) (cache : Option C) → Result (Install C) E → Type 0
  Installs h new t cache r =
      Stays (origin_of h) h.journal new.journal × IfOk r (λ answer. (d : C) × (cache ≡ Some d) × IsTriedAt (first_version (origin_of h)) new.journal t d answer)

  by-result : {E : Type 0} (h new : Contents C) (t : Job) (c : C) (cache : Option C) (r : Result (Install C) E) → IsConsistent contents is_under h → cache ≡ Some c → IsJobOf (start_of h) h.journal t
      → OnOk r (new ≡ installed h t c) → IfOk r (λ answer. answer ≡ install_answer h t c) → OnErr r (new ≡ h) → Installs h new t cache r
  by-result h new t c cache (Ok answer) is here given put told kept =
      let z = origin_of h in
      let same : new.journal ≡ h.journal = ap (λ (k : Contents C). k.journal) put ∙ (same-history h t c).1 in
      let now = tried contents is_under z h.journal h (book-of contents is_under h is) t c given in (
        record { history = subst (IsHistory z) (sym same) (history-of contents is_under h is); same = same },
        (c, here, subst (λ (es : List Entry). IsTriedAt (first_version z) es t c answer) (sym same) (subst (IsTriedAt (first_version z) h.journal t c) (sym told) now)),
      )
  by-result h new t c cache (Err e) is here given put told kept =
      let same : new.journal ≡ h.journal = ap (λ (k : Contents C). k.journal) kept in
      (record { history = subst (IsHistory (origin_of h)) (sym same) (history-of contents is_under h is); same = same }, tt)

  -- the same, where the book is told as `old`
  pub installs : {E : Type 0} (h old new : Contents C) (t : Job) (c : C) (cache : Option C) (r : Result (Install C) E) → h ≡ old → IsConsistent contents is_under h → cache ≡ Some c → IsJobOf (start_of old) old.journal t
      → OnOk r (new ≡ installed h t c) → IfOk r (λ answer. answer ≡ install_answer h t c) → OnErr r (new ≡ h) → Installs old new t cache r
  installs h old new t c cache r same is here given put told kept =
      let of_h = subst (λ (k : Contents C). IsJobOf (start_of k) k.journal t) (sym same) given in
      subst (λ (k : Contents C). Installs k new t cache r) same (by-result h new t c cache r is here of_h put told kept)

-- the receipt that a turn gave, told by the seat's base
pub named-of : {C E : Type 0} (y z : Origin) (known : Option Origin) (es : List Entry) (t : Job) (cache : Option C) (r : Result (Install C) E) → known ≡ Some y → known ≡ Some z
    → IfOk r (λ answer. (d : C) × (cache ≡ Some d) × IsTriedAt (first_version y) es t d answer) → IfOk r (NamesIfInstalled (first_version z) es)
named-of y z known es t cache r is_y is_z =
    let same : y ≡ z = same_Some y z (sym is_y ∙ is_z) in
    IfOk-weaker r _ _ (λ answer tried. subst (λ (o : Origin). NamesIfInstalled (first_version o) es answer) same (named (first_version y) es t tried.0 answer tried.2))
