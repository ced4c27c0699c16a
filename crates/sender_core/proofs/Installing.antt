-- A cache that comes back for a bundle.
use Rattle.std.proofs.Common.{◌≡◌, ◌⊎◌, ℕ, zero, suc, ◌+◌, ◌<◌, Bool, true, false, nat_eq, List, [], ◌∷◌, ◌++◌, length, map, take, Option, Some, None, inl, inr, refl, sym, ap, ◌∙◌, subst, arith, Vec, Global}
use Rattle.std.specs.Prelude.{if◌then◌else◌, slice_get, slice_set, slice_index_or}
use Rattle.std.specs.Arc.{arc_value}
use Rattle.std.specs.declared.sync.Arc.{Arc}
use Rattle.std.proofs.lemmas.Bool.{cases_lt, eqb-true}
use Rattle.std.proofs.lemmas.List.{map-set, get_or_default, length-map, get_or_past}
use Rattle.std.proofs.Math.ListN.{get_or-map}
use Rattle.std.proofs.lemmas.Option.{none-some, same_Some, slice_get_read, get_or_from_slice_get}
use Rattle.std.proofs.Math.Seq.{map-set_same}
use Rattle.psi_residue.specs.Parameters.{Parameters, parameter_bytes}
use Rattle.psi_bundle.specs.declared.member.Member.{Member}
use Rattle.psi_bundle.specs.declared.cached.Shown.{Shown}
use Rattle.psi_bundle.specs.declared.history.Entry.{Entry}
use Rattle.psi_bundle.specs.Versions.{Version, Row, Stamped, IsSound}
use Rattle.psi_bundle.specs.Histories.{replay, version_at}
use Rattle.sender_core.specs.declared.receipt.Now.{Now}
use Rattle.sender_core.specs.declared.task.Task.{Task}
use Rattle.sender_core.specs.Kept.{Kept, Contents, Job, stamped_of, row_of, rows_of, version_of, start_of, kept_row, kept_at, CacheSuits, IsStart, IsConsistent}
use Rattle.sender_core.specs.Shown.{kept_of, kept_of_row, kept_of_rows}
use Rattle.sender_core.specs.Stamps.{bundle_at}
use Rattle.sender_core.specs.Given.{IsJobOf, unless_cached, bare_at, bare_row, bare_rows}
use Rattle.sender_core.specs.Tries.{job_of, instead_of, now_at}
use Rattle.sender_core.specs.Installs.{with_cache, installed_by, installed}
use Rattle.sender_core.proofs.RowLists.{row-alone, row-read, kept_rows-set}
use Rattle.sender_core.proofs.SoundLists.{set-cases}
use Rattle.sender_core.proofs.StampHistories.{version-all, length-replay, equal-stamps}

stamp-chosen : (t : Bool) (n : Now) → (if t then None else Some n) ≡ None → t ≡ true
stamp-chosen true n e = refl
stamp-chosen false n e = absurd (none-some n (sym e))

module _ {C : Type 0} where
  -- ---- a cache is put beside a bundle

  kept_at-read : (items : List (Shown C)) (i : ℕ) (r : Shown C) → i < length items → r ≡ slice_index_or items i r → kept_at (kept_of_row items) i ≡ kept_of r
  kept_at-read items i r lt here =
      get_or_default (kept_of_row items) i (record { stamp = 0; bins = []; cache = None }) (kept_of r) (omega (arith, length-map items kept_of, lt))
      ∙ get_or-map kept_of items i r ∙ ap kept_of (sym here)

  pub cache-put : (items : List (Shown C)) (i : ℕ) (r new : Shown C) (a : Arc C Global) → i < length items → r ≡ slice_index_or items i r
      → kept_of new ≡ record (kept_of r) { cache = Some (arc_value a) }
      → kept_of_row (slice_set items i new) ≡ slice_set (kept_of_row items) i (record (kept_at (kept_of_row items) i) { cache = Some (arc_value a) })
  cache-put items i r new a lt here is =
      map-set kept_of items i new
      ∙ ap (slice_set (kept_of_row items) i) (is ∙ ap (λ (k : Kept C). record k { cache = Some (arc_value a) }) (sym (kept_at-read items i r lt here)))

  pub cache-beside : (items : List (Vec (Shown C) Global)) (r u : ℕ) (old new : Vec (Shown C) Global) (c d : C) → r < length items → old ≡ slice_index_or items r old
      → kept_of_row new.items ≡ slice_set (kept_of_row old.items) u (record (kept_at (kept_of_row old.items) u) { cache = Some d }) → d ≡ c
      → kept_of_rows (slice_set items r new) ≡ with_cache (kept_of_rows items) r u c
  cache-beside items r u old new c d lt here put is =
      let at = sym (row-read items r old lt here) in
      kept_rows-set items r new
      ∙ ap (slice_set (kept_of_rows items) r) (put ∙ (λ i. slice_set (at i) u (record (kept_at (at i) u) { cache = Some (is i) })))

  pub installed-here : (h : Contents C) (t : Job) (c : C) → now_at h.rows t ≡ None → installed h t c ≡ record h { rows = with_cache h.rows t.row t.index c }
  installed-here h t c e = ap (λ (o : Option Now). installed_by o h t c) e

  -- the bundles are as before
  pub rows-with_cache : (rows : List (List (Kept C))) (r u : ℕ) (c : C) → rows_of (with_cache rows r u c) ≡ rows_of rows
  rows-with_cache rows r u c =
      let row = kept_row rows r in
      map-set_same row_of rows r _ [] (map-set_same stamped_of row u (record (kept_at row u) { cache = Some c }) _ refl)

  -- nothing else stands there: the bundle is there, with its stamp
  found-by : (stamp len : ℕ) (o : Option (Kept C)) → instead_of stamp len o ≡ None → (k : Kept C) × (o ≡ Some k) × (k.stamp ≡ stamp)
  found-by stamp len None e = absurd (none-some _ (sym e))
  found-by stamp len (Some k) e = (k, refl, eqb-true k.stamp stamp (stamp-chosen (nat_eq k.stamp stamp) _ e))

  pub found-at : (rows : List (List (Kept C))) (t : Job) → now_at rows t ≡ None → (k : Kept C) × (slice_get (kept_row rows t.row) t.index ≡ Some k) × (k.stamp ≡ t.stamp)
  found-at rows t e = found-by t.stamp (length (kept_row rows t.row)) (slice_get (kept_row rows t.row) t.index) e

  -- a kept bundle as a bundle with its stamp
  pub bundle-at : (rows : List (List (Kept C))) (r u : ℕ) (k : Kept C) → slice_get (kept_row rows r) u ≡ Some k → bundle_at (rows_of rows) r u ≡ Some (stamped_of k)
  bundle-at rows r u k e = ap (λ (row : Row). slice_get row u) (row-alone rows r) ∙ get-mapped (kept_row rows r) u k e
    where
      get-mapped : (ks : List (Kept C)) (u : ℕ) (k : Kept C) → slice_get ks u ≡ Some k → slice_get (row_of ks) u ≡ Some (stamped_of k)
      get-mapped [] u k e = absurd (none-some k e)
      get-mapped (x ∷ xs) zero k e = ap (λ (y : Kept C). Some (stamped_of y)) (same_Some x k e)
      get-mapped (x ∷ xs) (suc u) k e = get-mapped xs u k e

-- ---- a task's row

pub job-row : (start : Version) (es : List Entry) (t : Job) → IsStart start → IsJobOf start es t → t.row < start.parameters.rows
job-row start es t begun h =
    let rows = (version_at start es h.0).rows in
    elim (cases_lt t.row (length rows)) [
      | inl lt ↦ omega (arith, lt, length-replay start (take h.0 es), begun.sound.each_row)
      | inr past ↦ absurd (none-some _ (sym (ap (λ (row : Row). slice_get row t.index) (get_or_past rows t.row [] past)) ∙ h.2))
    ]

module _ {C : Type 0} (contents : C → List (List Member)) (is_under : C → List ℕ → Type 0) where
  -- the bundle that still has the task's stamp is the task's bundle
  same-bins : (start : Version) (h : Contents C) (t : Job) (b : Stamped) → IsStart start → replay start h.journal ≡ version_of h → IsJobOf start h.journal t
      → bundle_at (rows_of h.rows) t.row t.index ≡ Some b → b.stamp ≡ t.stamp → b.bins ≡ t.bins
  same-bins start h t b begun replayed given is same =
      let now : bundle_at (version_at start h.journal (length h.journal)).rows t.row t.index ≡ Some b =
      ap (λ (v : Version). bundle_at v.rows t.row t.index) (version-all start h.journal ∙ replayed) ∙ is in
      ap (λ (k : Stamped). k.bins) (equal-stamps start h.journal begun (length h.journal) given.0 t.row t.index b _ now given.2 same)

  caches-with : (p : Parameters) (rows : List (List (Kept C))) (r u : ℕ) (c : C) → ((q w : ℕ) → CacheSuits contents is_under p (kept_at (kept_row rows q) w))
      → contents c ≡ (kept_at (kept_row rows r) u).bins → is_under c (parameter_bytes p) → (q w : ℕ) → CacheSuits contents is_under p (kept_at (kept_row (with_cache rows r u c) q) w)
  caches-with p rows r u c each same under q w =
      let row = kept_row rows r in
      let new : Kept C = record (kept_at row u) { cache = Some c } in
      elim (set-cases rows r q (slice_set row u new) []) [
        | inl before ↦ subst (λ (ks : List (Kept C)). CacheSuits contents is_under p (kept_at ks w)) (sym before) (each q w)
        | inr here ↦
            subst (λ (ks : List (Kept C)). CacheSuits contents is_under p (kept_at ks w)) (sym here.2)
            (elim (set-cases row u w new (record { stamp = 0; bins = []; cache = None })) [
              | inl old ↦ subst (CacheSuits contents is_under p) (sym old) (each r w)
              | inr is ↦ subst (CacheSuits contents is_under p) (sym is.2) (same, under)
            ])
      ]

  -- what holds of a book, and of it with a cache beside a bundle that still has the task's stamp, holds after the cache was brought back
  pub installed-either : (P : Contents C → Type 0) (h : Contents C) (t : Job) (c : C) → P h → (now_at h.rows t ≡ None → P (record h { rows = with_cache h.rows t.row t.index c })) → P (installed h t c)
  installed-either P h t c was put = by (now_at h.rows t) refl
    where
      by : (o : Option Now) → now_at h.rows t ≡ o → P (installed_by o h t c)
      by (Some n) e = was
      by None e = put e

  -- each cache is for its bundle then
  pub caches-installed : (start : Version) (h : Contents C) (t : Job) (c : C) → IsStart start → replay start h.journal ≡ version_of h → IsJobOf start h.journal t
      → ((r u : ℕ) → CacheSuits contents is_under start.parameters (kept_at (kept_row h.rows r) u)) → contents c ≡ t.bins → is_under c (parameter_bytes start.parameters) → now_at h.rows t ≡ None
      → (r u : ℕ) → CacheSuits contents is_under start.parameters (kept_at (kept_row (with_cache h.rows t.row t.index c) r) u)
  caches-installed start h t c begun replayed given each same under e =
      let found = found-at h.rows t e in
      let k = found.0 in
      let bins = same-bins start h t (stamped_of k) begun replayed given (bundle-at h.rows t.row t.index k found.1) found.2 in
      let at : kept_at (kept_row h.rows t.row) t.index ≡ k = get_or_from_slice_get (kept_row h.rows t.row) t.index k _ found.1 in
      caches-with start.parameters h.rows t.row t.index c each (same ∙ sym bins ∙ ap (λ (x : Kept C). x.bins) (sym at)) under

  -- the version is as before
  pub version-with : (h : Contents C) (r u : ℕ) (c : C) → version_of h ≡ version_of (record h { rows = with_cache h.rows r u c })
  version-with h r u c = ap (λ (rows : List Row). record (version_of h) { rows = rows }) (sym (rows-with_cache h.rows r u c))

  pub consistent-installed : (h : Contents C) (t : Job) (c : C) → IsConsistent contents is_under h → IsJobOf (start_of h) h.journal t → contents c ≡ t.bins → is_under c (parameter_bytes h.parameters)
      → IsConsistent contents is_under (installed h t c)
  consistent-installed h t c was given same under = installed-either (IsConsistent contents is_under) h t c was (λ e. record {
    passed = was.passed;
    sound = subst IsSound (version-with h t.row t.index c) was.sound;
    begun = was.begun;
    few = was.few;
    legal = was.legal;
    replayed = was.replayed ∙ version-with h t.row t.index c;
    caches = caches-installed (start_of h) h t c was.begun was.replayed given was.caches same under e;
    bytes = record { start = was.bytes.start; calls = was.bytes.calls; version = was.bytes.version };
  })

-- ---- bundles without a cache

get-append : {X : Type 0} (xs ys : List X) (n : ℕ) (x : X) → slice_get (xs ++ ys) n ≡ Some x → (slice_get xs n ≡ Some x) ⊎ ((m : ℕ) × (slice_get ys m ≡ Some x))
get-append [] ys n x e = inr (n, e)
get-append (y ∷ xs) ys zero x e = inl e
get-append (y ∷ xs) ys (suc n) x e = get-append xs ys n x e

module _ {C : Type 0} where
  -- a job of a row: the bundle is there
  abbrev IsIn : (r u : ℕ) → List (Kept C) → Job → Type 0
  IsIn r u ks t = (t.row ≡ r) × ((i : ℕ) × (t.index ≡ u + i) × (slice_get (row_of ks) i ≡ Some (record { stamp = t.stamp; bins = t.bins })))

  bare-one : (r u n : ℕ) (k : Kept C) (o : Option C) (t : Job) → slice_get (unless_cached o (record { row = r; index = u; stamp = k.stamp; bins = k.bins })) n ≡ Some t
      → record { row = r; index = u; stamp = k.stamp; bins = k.bins } ≡ t
  bare-one r u n k (Some c) t e = absurd (none-some t e)
  bare-one r u zero k None t e = same_Some _ t e
  bare-one r u (suc n) k None t e = absurd (none-some t e)

  in-row : (r u : ℕ) (ks : List (Kept C)) (n : ℕ) (t : Job) → slice_get (bare_row r u ks) n ≡ Some t → IsIn r u ks t
  in-row r u [] n t e = absurd (none-some t e)
  in-row r u (k ∷ ks) n t e =
      elim (get-append (bare_at r u k) (bare_row r (u + 1) ks) n t e) [
        | inl here ↦
            let is = bare-one r u n k k.cache t here in (
              ap (λ (x : Job). x.row) (sym is),
              (0, ap (λ (x : Job). x.index) (sym is) ∙ omega arith, ap (λ (x : Job). let b : Stamped = record { stamp = x.stamp; bins = x.bins } in Some b) is),
            )
        | inr later ↦
            let rest = in-row r (u + 1) ks later.0 t later.1 in
            (rest.0, (suc rest.1.0, rest.1.1 ∙ omega arith, rest.1.2))
      ]

  in-rows : (r : ℕ) (rows : List (List (Kept C))) (n : ℕ) (t : Job) → slice_get (bare_rows r rows) n ≡ Some t
      → (i : ℕ) × (t.row ≡ r + i) × (bundle_at (rows_of rows) i t.index ≡ Some (record { stamp = t.stamp; bins = t.bins }))
  in-rows r [] n t e = absurd (none-some t e)
  in-rows r (ks ∷ rows) n t e =
      elim (get-append (bare_row r 0 ks) (bare_rows (r + 1) rows) n t e) [
        | inl here ↦
            let found = in-row r 0 ks n t here in
            let index : t.index ≡ found.1.0 = found.1.1 ∙ omega arith in
            (0, found.0 ∙ omega arith, ap (slice_get (row_of ks)) index ∙ found.1.2)
        | inr later ↦
            let rest = in-rows (r + 1) rows later.0 t later.1 in
            (suc rest.0, rest.1 ∙ omega arith, rest.2)
      ]

  -- a job that a book gives is of its history
  pub job-given : (start : Version) (h : Contents C) (n : ℕ) (t : Job) → replay start h.journal ≡ version_of h → slice_get (bare_rows 0 h.rows) n ≡ Some t → IsJobOf start h.journal t
  job-given start h n t replayed e =
      let found = in-rows 0 h.rows n t e in
      let row : t.row ≡ found.0 = found.1 ∙ omega arith in
      let now : bundle_at (rows_of h.rows) t.row t.index ≡ Some (record { stamp = t.stamp; bins = t.bins }) =
      ap (λ (r : ℕ). bundle_at (rows_of h.rows) r t.index) row ∙ found.2 in
      (length h.journal, omega arith, ap (λ (v : Version). bundle_at v.rows t.row t.index) (version-all start h.journal ∙ replayed) ∙ now)

  pub task-given : (h : Contents C) (tasks : List Task) (n i : ℕ) (task : Task) → replay (start_of h) h.journal ≡ version_of h → map job_of tasks ≡ bare_rows 0 h.rows
      → n ≡ length tasks → i < n → task ≡ slice_index_or tasks i task → IsJobOf (start_of h) h.journal (job_of task)
  task-given h tasks n i task replayed are size lt here =
      let read : slice_get tasks i ≡ Some task = slice_get_read tasks n i task size lt here in
      job-given (start_of h) h i (job_of task) replayed (ap (λ (ts : List Job). slice_get ts i) (sym are) ∙ slice_get-mapped tasks i task read)
    where
      slice_get-mapped : (ts : List Task) (k : ℕ) (t : Task) → slice_get ts k ≡ Some t → slice_get (map job_of ts) k ≡ Some (job_of t)
      slice_get-mapped [] k t e = absurd (none-some t e)
      slice_get-mapped (x ∷ xs) zero t e = ap (λ (y : Task). Some (job_of y)) (same_Some x t e)
      slice_get-mapped (x ∷ xs) (suc k) t e = slice_get-mapped xs k t e
