-- What it does to a book that a cache comes back for a bundle, and what a book gives that needs caches.
use Rattle.std.specs.Prelude.{◌≡◌, ℕ, ◌%◌, List, [], length, slice_get, slice_set, Option, Some, None, ⊤}
use Rattle.psi_bundle.specs.declared.history.Entry.{Entry}
use Rattle.psi_bundle.specs.Versions.{Version}
use Rattle.sender_core.specs.declared.receipt.Now.{Now}
use Rattle.sender_core.specs.declared.install.Install.{Install}
use Rattle.sender_core.specs.declared.install.Install.TheVariants as install
use Rattle.sender_core.specs.declared.install.Bare.{Bare}
use Rattle.sender_core.specs.declared.install.Bare.TheVariants as bare
use Rattle.sender_core.specs.Kept.{Kept, Contents, Job, kept_row, kept_at}
use Rattle.sender_core.specs.Given.{IsJobOf, sight_of, bare_rows}
use Rattle.sender_core.specs.Tries.{Tried, job_of, now_at}

module _ {C : Type 0} where
  -- the rows with a cache beside one bundle
  abbrev pub with_cache : List (List (Kept C)) → (r u : ℕ) → C → List (List (Kept C))
  with_cache rows r u c = slice_set rows r (slice_set (kept_row rows r) u (record (kept_at (kept_row rows r) u) { cache = Some c }))

  -- the cache is put in unless something else stands there
  abbrev pub installed_by : Option Now → Contents C → Job → C → Contents C
  installed_by None h t c = record h { rows = with_cache h.rows t.row t.index c }
  installed_by (Some n) h t c = h

  abbrev pub installed : Contents C → Job → C → Contents C
  installed h t c = installed_by (now_at h.rows t) h t c

  -- the receipt of the try
  abbrev pub receipt_of : Contents C → Job → Tried
  receipt_of h t = record { row = t.row; index = t.index; stamp = t.stamp; at = length h.journal; instead = now_at h.rows t }

  -- Installed, or Stale with the cache
  abbrev pub answer_by : Option Now → Tried → C → Install C
  answer_by None receipt c = install.Installed receipt
  answer_by (Some n) receipt c = install.Stale receipt c

  abbrev pub install_answer : Contents C → Job → C → Install C
  install_answer h t c = answer_by (now_at h.rows t) (receipt_of h t) c

  -- All where no bundle is without a cache, with all of them; and else the one with the number `skip` modulo their number
  abbrev pub IsBareOf : Contents C → ℕ → Bare C → Type 0
  IsBareOf h skip (bare.All shown) = (bare_rows 0 h.rows ≡ []) × (shown ≡ sight_of h)
  IsBareOf h skip (bare.One task) = slice_get (bare_rows 0 h.rows) (skip % length (bare_rows 0 h.rows)) ≡ Some (job_of task)

  -- the task that is given is of the book's history
  abbrev pub IsGivenOf : Version → List Entry → Bare C → Type 0
  IsGivenOf start es (bare.All shown) = ⊤
  IsGivenOf start es (bare.One task) = IsJobOf start es (job_of task)
