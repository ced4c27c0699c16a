-- What holds of a book and of what it gave out, whatever events happen in whatever order.
use Rattle.std.proofs.Common.{◌≡◌, ◌⊎◌, ℕ, zero, suc, ◌%◌, ◌≤◌, ◌<◌, List, [], ◌∷◌, ◌++◌, length, get_or, Option, Some, None, inl, inr, refl, sym, ap, ◌∙◌, subst, arith, length-append}
use Rattle.std.specs.Prelude.{IfSome, IsTrue, slice_get}
use Rattle.std.specs.List.{Contains}
use Rattle.std.specs.FinMap as fin
use Rattle.std.proofs.lemmas.List.Elements.{Contains-append_left, Contains-push_cases}
use Rattle.psi_residue.specs.Parameters.{Parameters, parameter_bytes}
use Rattle.psi_bundle.specs.declared.member.Member.{Member}
use Rattle.psi_bundle.specs.declared.history.Call.{Call}
use Rattle.psi_bundle.specs.declared.history.Call.TheVariants as call
use Rattle.psi_bundle.specs.declared.history.Answer.{Answer}
use Rattle.psi_bundle.specs.declared.history.Entry.{Entry}
use Rattle.psi_bundle.specs.Versions.{Version, Row, row_at}
use Rattle.psi_bundle.specs.Histories.{IsLegal, replay, most_entries}
use Rattle.sender_core.specs.Kept.{Kept, Contents, View, RowSight, Job, version_of, start_of, empty_contents, kept_row, kept_at, CacheSuits, IsAsBefore, IsStep, IsStart}
use Rattle.sender_core.specs.Stamps.{bundle_at}
use Rattle.sender_core.specs.Given.{IsViewOf, IsJobOf, row_sight_of, sight_of, bare_rows}
use Rattle.sender_core.specs.Installs.{installed}
use Rattle.sender_core.specs.Events.{World, Event, put, drop_tag, ask, fetch_row, fetch_bare, commit, install, finish, IsStepOrRefused, fetched_by, Happens, Happen, IsFirst, world_of, IsShown, Interleaved, NumbersInterleaved, EmptyIsFirst}
use Rattle.sender_core.proofs.Consistency.{same-start, legal-after, replayed-after, few-after, caches-after, no_row, rows_alone, unstamped}
use Rattle.sender_core.proofs.SoundSteps.{sound-empty}
use Rattle.sender_core.proofs.Installing.{installed-either, caches-installed, version-with, job-given}
use Rattle.sender_core.proofs.RowLists.{row-alone}
use Rattle.sender_core.proofs.StampHistories.{version-more, version-all}

-- the first element of a list, or a later one
first-or-later : {X : Type 0} (y x : X) (ys : List X) → Contains (y ∷ ys) x → (y ≡ x) ⊎ Contains ys x
first-or-later {X = X} y x ys c = by c.0 c.1 c.2
  where
    by : (k : ℕ) → k < length (y ∷ ys) → get_or (y ∷ ys) k x ≡ x → (y ≡ x) ⊎ Contains ys x
    by zero lt is = inl is
    by (suc k) lt is = inr (k, omega arith, is)

none-contained : {X : Type 0} (x : X) → Contains [] x → ⊥
none-contained x c = let within : c.0 < 0 = c.1 in omega arith

-- ---- a longer history

pub view-more : {C : Type 0} (start : Version) (es rest : List Entry) (v : RowSight C) → IsViewOf start es v → IsViewOf start (es ++ rest) v
view-more start es rest v h =
    let longer = length-append es rest in
    (h.0, omega (arith, h.1, longer), h.2 ∙ ap (λ (w : Version). row_at w.rows v.row) (sym (version-more start es rest v.from h.1)))

pub job-more : (start : Version) (es rest : List Entry) (t : Job) → IsJobOf start es t → IsJobOf start (es ++ rest) t
job-more start es rest t h =
    let longer = length-append es rest in
    (h.0, omega (arith, h.1, longer), ap (λ (w : Version). bundle_at w.rows t.row t.index) (version-more start es rest h.0 h.1) ∙ h.2)

-- ---- the invariant

module _ {C : Type 0} (contents : C → List (List Member)) (is_under : C → List ℕ → Type 0) (start : Version) (begun : IsStart start) where
  -- what holds of a book of this start
  pub record BookHolds (h : Contents C) : Type 0 where
    pub same_start : start_of h ≡ start
    pub legal : IsLegal start h.journal
    pub replayed : replay start h.journal ≡ version_of h
    pub few : length h.journal ≤ most_entries
    pub caches : (r u : ℕ) → CacheSuits contents is_under start.parameters (kept_at (kept_row h.rows r) u)

  -- what holds of all that was given
  pub record GivenHolds (es : List Entry) (w : World C) : Type 0 where
    pub snapshots : (s : View C) → Contains w.snapshots s → IsShown contents is_under start es s
    pub views : (v : RowSight C) → Contains w.views v → IsViewOf start es v
    pub jobs : (t : Job) → Contains w.jobs t → IsJobOf start es t

  -- ---- one entry more

  shown-more : (es : List Entry) (e : Entry) (s : View C) → IsShown contents is_under start es s → IsShown contents is_under start (es ++ e ∷ []) s
  shown-more es e s h =
      let longer = length-append es (e ∷ []) in
      (omega (arith, h.0, longer), h.1 ∙ ap (λ (v : Version). v.rows) (sym (version-more start es (e ∷ []) s.place h.0)), h.2)

  given-more : (es : List Entry) (e : Entry) (w : World C) → GivenHolds es w → GivenHolds (es ++ e ∷ []) w
  given-more es e w h = record {
    snapshots = λ s c. shown-more es e s (h.snapshots s c);
    views = λ v c. view-more start es (e ∷ []) v (h.views v c);
    jobs = λ t c. job-more start es (e ∷ []) t (h.jobs t c);
  }

  -- another book beside what was given
  given-beside : (es : List Entry) (w : World C) (h : Contents C) → GivenHolds es w → GivenHolds es (record w { book = h })
  given-beside es w h g = record { snapshots = g.snapshots; views = g.views; jobs = g.jobs }

  -- ---- what is given now

  shown-now : (h : Contents C) → BookHolds h → IsShown contents is_under start h.journal (sight_of h)
  shown-now h b = (omega arith, sym (ap (λ (v : Version). v.rows) (version-all start h.journal ∙ b.replayed)), b.caches)

  view-now : (h : Contents C) (row : ℕ) → BookHolds h → row < h.parameters.rows → IsViewOf start h.journal (row_sight_of h row)
  view-now h row b lt = (
    subst (λ (v : Version). row < v.parameters.rows) b.same_start lt,
    omega arith,
    sym (ap (λ (v : Version). row_at v.rows row) (version-all start h.journal ∙ b.replayed) ∙ row-alone h.rows row),
  )

  with-snapshot : (es : List Entry) (w : World C) (s : View C) → GivenHolds es w → IsShown contents is_under start es s → GivenHolds es (record w { snapshots = w.snapshots ++ s ∷ [] })
  with-snapshot es w s g is = record {
    snapshots = λ x c. elim (Contains-push_cases w.snapshots s x c) [ inl old ↦ g.snapshots x old | inr same ↦ subst (IsShown contents is_under start es) same is ];
    views = g.views;
    jobs = g.jobs;
  }

  with-view : (es : List Entry) (w : World C) (v : RowSight C) → GivenHolds es w → IsViewOf start es v → GivenHolds es (record w { views = w.views ++ v ∷ [] })
  with-view es w v g is = record {
    snapshots = g.snapshots;
    views = λ x c. elim (Contains-push_cases w.views v x c) [ inl old ↦ g.views x old | inr same ↦ subst (IsViewOf start es) same is ];
    jobs = g.jobs;
  }

  with-job : (es : List Entry) (w : World C) (t : Job) → GivenHolds es w → IsJobOf start es t → GivenHolds es (record w { jobs = w.jobs ++ t ∷ [] })
  with-job es w t g is = record {
    snapshots = g.snapshots;
    views = g.views;
    jobs = λ x c. elim (Contains-push_cases w.jobs t x c) [ inl old ↦ g.jobs x old | inr same ↦ subst (IsJobOf start es) same is ];
  }

  -- ---- the book

  book-after : (old new : Contents C) (c : Call) (answer : Answer) → BookHolds old → length old.journal < most_entries → IsStep old new c answer → BookHolds new
  book-after old new c answer b free h = record {
    same_start = sym (same-start old new c answer h) ∙ b.same_start;
    legal = legal-after old new c answer h start b.legal b.replayed;
    replayed = replayed-after old new c answer h start b.replayed;
    few = few-after old new c answer h free;
    caches = caches-after contents is_under old new c answer h start.parameters b.caches;
  }

  book-as-before : (old new : Contents C) → BookHolds old → IsAsBefore old new → BookHolds new
  book-as-before old new b kept =
      let same : BookHolds (record old { room = new.room }) = record { same_start = b.same_start; legal = b.legal; replayed = b.replayed; few = b.few; caches = b.caches } in
      subst BookHolds (sym kept) same

  book-installed : (h : Contents C) (t : Job) (c : C) → BookHolds h → IsJobOf start h.journal t → contents c ≡ t.bins → is_under c (parameter_bytes h.parameters) → BookHolds (installed h t c)
  book-installed h t c b given same under =
      let under_start = subst (λ (v : Version). is_under c (parameter_bytes v.parameters)) b.same_start under in
      installed-either contents is_under BookHolds h t c b (λ e. record {
        same_start = b.same_start;
        legal = b.legal;
        replayed = b.replayed ∙ version-with contents is_under h t.row t.index c;
        few = b.few;
        caches = caches-installed contents is_under start h t c begun b.replayed given b.caches same under_start e;
      })

  same-journal : (h : Contents C) (t : Job) (c : C) → (installed h t c).journal ≡ h.journal
  same-journal h t c = installed-either contents is_under (λ k. k.journal ≡ h.journal) h t c refl (λ e. refl)

  -- ---- events

  pub record Holds (w : World C) : Type 0 where
    pub book : BookHolds w.book
    pub given : GivenHolds w.book.journal w

  called : (old given : World C) (c : Call) (new : World C) → BookHolds old.book → GivenHolds old.book.journal old → GivenHolds old.book.journal given → IsStepOrRefused old given c new → Holds new
  called old given c new b was gives (inl refused) =
      let journal : old.book.journal ≡ new.book.journal = ap (λ (h : Contents C). h.journal) (sym refused.1) in
      record {
        book = book-as-before old.book new.book b refused.1;
        given = subst (λ (w : World C). GivenHolds new.book.journal w) (sym refused.0)
            (given-beside new.book.journal old new.book (subst (λ (es : List Entry). GivenHolds es old) journal was));
      }
  called old given c new b was gives (inr stepped) =
      let answer = stepped.1.0 in
      let is = stepped.1.1 in
      let e : Entry = record { call = c; answer = answer } in
      record {
        book = book-after old.book new.book c answer b stepped.0 is;
        given = subst (λ (w : World C). GivenHolds new.book.journal w) (sym stepped.1.2)
            (given-beside new.book.journal given new.book
            (subst (λ (es : List Entry). GivenHolds es given) (sym is.journal) (given-more old.book.journal e given gives)));
      }

  fetched : (o : Option Job) (n : ℕ) (w : World C) → Holds w → slice_get (bare_rows 0 w.book.rows) n ≡ o → Holds (fetched_by o w)
  fetched (Some t) n w h e = record { book = h.book; given = with-job w.book.journal w t h.given (job-given start w.book n t h.book.replayed e) }
  fetched None n w h e = record { book = h.book; given = with-snapshot w.book.journal w (sight_of w.book) h.given (shown-now w.book h.book) }

  happens : (old : World C) (e : Event C) (new : World C) → Holds old → Happens contents is_under old e new → Holds new
  happens old (put tag label) new h is = called old old (call.Put tag label) new h.book h.given h.given is
  happens old (drop_tag tag) new h is = called old old (call.Drop tag) new h.book h.given h.given is
  happens old ask new h is =
      called old (record old { snapshots = old.snapshots ++ sight_of old.book ∷ [] }) call.Ask new h.book h.given
      (with-snapshot old.book.journal old (sight_of old.book) h.given (shown-now old.book h.book)) is
  happens old (fetch_row row) new h is =
      subst Holds (sym is.1) (record { book = h.book; given = with-view old.book.journal old (row_sight_of old.book row) h.given (view-now old.book row h.book is.0) })
  happens old (fetch_bare skip) new h is =
      let jobs = bare_rows 0 old.book.rows in
      subst Holds (sym is) (fetched (slice_get jobs (skip % length jobs)) (skip % length jobs) old h refl)
  happens old (commit v) new h is = called old old (call.Repack v.row v.from) new h.book h.given h.given is.1
  happens old (install t c) new h is =
      let book = installed old.book t c in
      subst Holds (sym is.3) (record {
        book = book-installed old.book t c h.book (h.given.jobs t is.0) is.1 is.2;
        given = given-beside book.journal old book (subst (λ (es : List Entry). GivenHolds es old) (sym (same-journal old.book t c)) h.given);
      })
  happens old (finish s) new h is = subst Holds (sym is.1) h

  -- ---- a snapshot stays given

  called-keeps : (old given : World C) (c : Call) (new : World C) (s : View C) → Contains old.snapshots s → Contains given.snapshots s → IsStepOrRefused old given c new → Contains new.snapshots s
  called-keeps old given c new s was gives (inl refused) = subst (λ (w : World C). Contains w.snapshots s) (sym refused.0) was
  called-keeps old given c new s was gives (inr stepped) = subst (λ (w : World C). Contains w.snapshots s) (sym stepped.1.2) gives

  fetched-keeps : (o : Option Job) (w : World C) (s : View C) → Contains w.snapshots s → Contains (fetched_by o w).snapshots s
  fetched-keeps (Some t) w s was = was
  fetched-keeps None w s was = Contains-append_left w.snapshots (sight_of w.book ∷ []) s was

  keeps : (old : World C) (e : Event C) (new : World C) (s : View C) → Contains old.snapshots s → Happens contents is_under old e new → Contains new.snapshots s
  keeps old (put tag label) new s was is = called-keeps old old (call.Put tag label) new s was was is
  keeps old (drop_tag tag) new s was is = called-keeps old old (call.Drop tag) new s was was is
  keeps old ask new s was is =
      called-keeps old (record old { snapshots = old.snapshots ++ sight_of old.book ∷ [] }) call.Ask new s was (Contains-append_left old.snapshots (sight_of old.book ∷ []) s was) is
  keeps old (fetch_row row) new s was is = subst (λ (w : World C). Contains w.snapshots s) (sym is.1) was
  keeps old (fetch_bare skip) new s was is = subst (λ (w : World C). Contains w.snapshots s) (sym is) (fetched-keeps _ old s was)
  keeps old (commit v) new s was is = called-keeps old old (call.Repack v.row v.from) new s was was is.1
  keeps old (install t c) new s was is = subst (λ (w : World C). Contains w.snapshots s) (sym is.3) was
  keeps old (finish x) new s was is = subst (λ (w : World C). Contains w.snapshots s) (sym is.1) was

  keep-all : (old : World C) (es : List (Event C)) (new : World C) (s : View C) → Contains old.snapshots s → Happen contents is_under old es new → Contains new.snapshots s
  keep-all old [] new s was is = subst (λ (w : World C). Contains w.snapshots s) (sym is) was
  keep-all old (e ∷ es) new s was is = keep-all is.0 es new s (keeps old e is.0 s was is.1) is.2

  -- a snapshot that is used was given
  was-given : (old : World C) (es : List (Event C)) (new : World C) (s : View C) → Happen contents is_under old es new → Contains es (finish s) → Contains new.snapshots s
  was-given old [] new s is c = absurd (none-contained (finish s) c)
  was-given old (e ∷ es) new s is c =
      elim (first-or-later e (finish s) es c) [
        | inl here ↦
            let used : Happens contents is_under old (finish s) is.0 = subst (λ (x : Event C). Happens contents is_under old x is.0) here is.1 in
            keep-all is.0 es new s (keeps old e is.0 s used.0 is.1) is.2
        | inr later ↦ was-given is.0 es new s is.2 later
      ]

  happen : (old : World C) (es : List (Event C)) (new : World C) → Holds old → Happen contents is_under old es new → Holds new
  happen old [] new h is = subst Holds (sym is) h
  happen old (e ∷ es) new h is = happen is.0 es new (happens old e is.0 h is.1) is.2

-- ---- from the beginning

module _ {C : Type 0} (contents : C → List (List Member)) (is_under : C → List ℕ → Type 0) where
  suits-none : (p : Parameters) (k : Kept C) → k.cache ≡ None → CacheSuits contents is_under p k
  suits-none p k e = subst (λ (o : Option C). IfSome o (λ c. (contents c ≡ k.bins) × is_under c (parameter_bytes p))) (sym e) tt

  first-holds : (h : Contents C) (first : IsFirst contents is_under h) → Holds contents is_under (start_of h) first.begun (world_of contents is_under h)
  first-holds h first = record {
    book = record {
      same_start = refl;
      legal = subst (IsLegal (start_of h)) (sym first.no_entries) tt;
      replayed = ap (replay (start_of h)) first.no_entries ∙ sym first.version;
      few = omega (arith, ap length first.no_entries);
      caches = λ r u. suits-none h.parameters (kept_at (kept_row h.rows r) u) (first.no_caches r u);
    };
    given = record { snapshots = λ s c. absurd (none-contained s c); views = λ v c. absurd (none-contained v c); jobs = λ t c. absurd (none-contained t c) };
  }

  pub all-interleaved : Interleaved contents is_under
  all-interleaved h es w first is =
      let begun = first.begun in
      let held = happen contents is_under (start_of h) begun (world_of contents is_under h) es w (first-holds h first) is in
      record {
        same_start = held.book.same_start;
        legal = held.book.legal;
        replayed = held.book.replayed;
        few = held.book.few;
        finished = λ s c. held.given.snapshots s (was-given contents is_under (start_of h) begun (world_of contents is_under h) es w s is c);
        caches = held.book.caches;
        snapshots = held.given.snapshots;
        views = held.given.views;
        jobs = held.given.jobs;
      }

  pub empty-first : (p : Parameters) → IsFirst contents is_under (empty_contents p)
  empty-first p = record {
    begun = record { sound = sound-empty p; no_entries = refl; no_stamps = unstamped p.rows };
    version = ap (λ (rows : List Row). record { parameters = p; count = 0; labels = fin.from_entries []; rows = rows }) (rows_alone C p.rows);
    no_entries = refl;
    no_caches = λ r u. ap (λ (ks : List (Kept C)). (kept_at ks u).cache) (no_row C p.rows r);
  }

pub numbers-interleaved : NumbersInterleaved
numbers-interleaved contents is_under = all-interleaved contents (λ c p. IsTrue (is_under c p))

pub numbers-first : EmptyIsFirst
numbers-first contents is_under p = empty-first contents (λ c b. IsTrue (is_under c b)) p
