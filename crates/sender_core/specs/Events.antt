-- Events side by side: a book, what it has given out so far, and calls of any actor in any order.
use Rattle.std.specs.Prelude.{◌≡◌, ◌⊎◌, ℕ, ◌%◌, ◌<◌, ◌≤◌, Bool, IsTrue, List, [], ◌∷◌, ◌++◌, length, slice_get, Option, Some, None}
use Rattle.std.specs.List.{Contains}
use Rattle.psi_residue.specs.Parameters.{Parameters, parameter_bytes}
use Rattle.psi_bundle.specs.declared.member.Member.{Member}
use Rattle.psi_bundle.specs.declared.history.Call.{Call}
use Rattle.psi_bundle.specs.declared.history.Call.TheVariants as call
use Rattle.psi_bundle.specs.declared.history.Answer.{Answer}
use Rattle.psi_bundle.specs.declared.history.Entry.{Entry}
use Rattle.psi_bundle.specs.Versions.{Version}
use Rattle.psi_bundle.specs.Histories.{IsLegal, replay, version_at, most_entries}
use Rattle.sender_core.specs.Kept.{Contents, View, RowSight, Job, version_of, start_of, rows_of, empty_contents, kept_row, kept_at, CacheSuits, IsAsBefore, IsStep, IsStart}
use Rattle.sender_core.specs.Given.{IsViewOf, IsJobOf, row_sight_of, sight_of, bare_rows}
use Rattle.sender_core.specs.Installs.{installed}

-- a book, and all snapshots, views of rows and tasks that it has given so far
pub record World (C : Type 0) : Type 0 where
  pub book : Contents C
  pub snapshots : List (View C)
  pub views : List (RowSight C)
  pub jobs : List Job

-- What any actor may do. A commit brings a view back, an install a task with a cache, and a finish uses a snapshot.
pub data Event (C : Type 0) : Type 0 where
  put : (tag label : List ℕ) → Event C
  drop_tag : (tag : List ℕ) → Event C
  ask : Event C
  fetch_row : (row : ℕ) → Event C
  fetch_bare : (skip : ℕ) → Event C
  commit : RowSight C → Event C
  install : Job → C → Event C
  finish : View C → Event C

module _ {C : Type 0} where
  -- A call that adds an entry is refused and changes nothing, but for the room for entries, or it is a step of the book; what it gives stands in `given`. Where the journal is full it is refused.
  abbrev pub IsStepOrRefused : (old given : World C) → Call → (new : World C) → Type 0
  IsStepOrRefused old given c new =
      ((new ≡ record old { book = new.book }) × IsAsBefore old.book new.book)
      ⊎ ((length old.book.journal < most_entries) × ((answer : Answer) × IsStep old.book new.book c answer × (new ≡ record given { book = new.book })))

  -- a bundle without a cache is given, or else all bundles
  abbrev pub fetched_by : Option Job → World C → World C
  fetched_by (Some t) w = record w { jobs = w.jobs ++ t ∷ [] }
  fetched_by None w = record w { snapshots = w.snapshots ++ sight_of w.book ∷ [] }

  module _ (contents : C → List (List Member)) (is_under : C → List ℕ → Type 0) where
    -- one event: a view, task or snapshot that is used was given before, and a cache is for the task's bundle under the book's parameters
    abbrev pub Happens : World C → Event C → World C → Type 0
    Happens old (put tag label) new = IsStepOrRefused old old (call.Put tag label) new
    Happens old (drop_tag tag) new = IsStepOrRefused old old (call.Drop tag) new
    Happens old ask new = IsStepOrRefused old (record old { snapshots = old.snapshots ++ sight_of old.book ∷ [] }) call.Ask new
    Happens old (fetch_row row) new = (row < old.book.parameters.rows) × (new ≡ record old { views = old.views ++ row_sight_of old.book row ∷ [] })
    Happens old (fetch_bare skip) new = new ≡ fetched_by (slice_get (bare_rows 0 old.book.rows) (skip % length (bare_rows 0 old.book.rows))) old
    Happens old (commit v) new = Contains old.views v × IsStepOrRefused old old (call.Repack v.row v.from) new
    Happens old (install t c) new =
        Contains old.jobs t × (contents c ≡ t.bins) × is_under c (parameter_bytes old.book.parameters) × (new ≡ record old { book = installed old.book t c })
    Happens old (finish s) new = Contains old.snapshots s × (new ≡ old)

    -- one event after another
    abbrev pub Happen : World C → List (Event C) → World C → Type 0
    Happen old [] new = new ≡ old
    Happen old (e ∷ es) new = (next : World C) × Happens old e next × Happen next es new

    -- a book that has its start's version, no entries and no caches
    pub record IsFirst (h : Contents C) : Type 0 where
      pub begun : IsStart (start_of h)
      pub version : version_of h ≡ start_of h
      pub no_entries : h.journal ≡ []
      pub no_caches : (r u : ℕ) → (kept_at (kept_row h.rows r) u).cache ≡ None

    -- a book that has given nothing yet
    abbrev pub world_of : Contents C → World C
    world_of h = record { book = h; snapshots = []; views = []; jobs = [] }

    -- a snapshot shows exactly the bundles of the replay of as many entries as its place says, and its caches are for them
    abbrev pub IsShown : Version → List Entry → View C → Type 0
    IsShown start es s =
        (s.place ≤ length es) × (rows_of s.rows ≡ (version_at start es s.place).rows) × ((r u : ℕ) → CacheSuits contents is_under start.parameters (kept_at (kept_row s.rows r) u))

    -- what holds after any events
    pub record IsInterleaved (start : Version) (es : List (Event C)) (w : World C) : Type 0 where
      -- the journal is legal from the start and replays to the version, and has at most 2^20 entries
      pub same_start : start_of w.book ≡ start
      pub legal : IsLegal start w.book.journal
      pub replayed : replay start w.book.journal ≡ version_of w.book
      pub few : length w.book.journal ≤ most_entries
      -- each snapshot that was used shows the bundles at its place
      pub finished : (s : View C) → Contains es (finish s) → IsShown start w.book.journal s
      -- each cache in the book is for the bundle where it stands
      pub caches : (r u : ℕ) → CacheSuits contents is_under start.parameters (kept_at (kept_row w.book.rows r) u)
      -- all that was given is of this history
      pub snapshots : (s : View C) → Contains w.snapshots s → IsShown start w.book.journal s
      pub views : (v : RowSight C) → Contains w.views v → IsViewOf start w.book.journal v
      pub jobs : (t : Job) → Contains w.jobs t → IsJobOf start w.book.journal t

    -- the law: from any such book, by any events
    abbrev pub Interleaved : Type 0
    Interleaved = (h : Contents C) (es : List (Event C)) (w : World C) → IsFirst h → Happen (world_of h) es w → IsInterleaved (start_of h) es w

-- the law where caches are numbers, whatever each one is for
abbrev pub NumbersInterleaved : Type 0
NumbersInterleaved = (contents : ℕ → List (List Member)) (is_under : ℕ → List ℕ → Bool) → Interleaved contents (λ c p. IsTrue (is_under c p))

-- a new book is such a beginning
abbrev pub EmptyIsFirst : Type 0
EmptyIsFirst = (contents : ℕ → List (List Member)) (is_under : ℕ → List ℕ → Bool) (p : Parameters) → IsFirst contents (λ c b. IsTrue (is_under c b)) (empty_contents p)
