-- What a book keeps: a version, the entries that led to it, and caches beside its bundles.
use Rattle.std.specs.Prelude.{◌≡◌, ◌⊎◌, ℕ, ◌+◌, ◌≤◌, List, [], ◌∷◌, ◌++◌, length, map, replicate, Option, None, IfSome, slice_index_or}
use Rattle.std.specs.List.{All, flat_map, sum}
use Rattle.std.specs.FinMap as fin
use Rattle.psi_residue.specs.Parameters.{Parameters, parameter_bytes}
use Rattle.psi_bundle.specs.declared.member.Member.{Member}
use Rattle.psi_bundle.specs.declared.history.Call.{Call}
use Rattle.psi_bundle.specs.declared.history.Answer.{Answer}
use Rattle.psi_bundle.specs.declared.history.Entry.{Entry}
use Rattle.psi_bundle.specs.Versions.{Version, Row, Stamped, IsSound, members_of_row}
use Rattle.psi_bundle.specs.Steps.{step}
use Rattle.psi_bundle.specs.Histories.{IsLegal, replay, IsFitting, HasBytes, HoldBytes, most_entries}
use Rattle.noise_ledger.specs.Verdicts.{ArePassed}

-- a bundle with its stamp, and with a cache where there is one
pub record Kept (C : Type 0) : Type 0 where
  pub stamp : ℕ
  pub bins : List (List Member)
  pub cache : Option C

-- the labels by tag and the rows of bundles that a journal starts from
pub record BookStart : Type 0 where
  pub labels : List (List ℕ × List ℕ)
  pub rows : List Row

-- a book's contents: the parameters, the start, the labels by tag, the rows of bundles, the journal, and the room for entries behind it
pub record Contents (C : Type 0) : Type 0 where
  pub parameters : Parameters
  pub start : BookStart
  pub labels : List (List ℕ × List ℕ)
  pub rows : List (List (Kept C))
  pub journal : List Entry
  pub room : ℕ

-- all bundles as they stood when an entry was made, and the entry's place
pub record View (C : Type 0) : Type 0 where
  pub place : ℕ
  pub rows : List (List (Kept C))

-- the bundles of one row as they stood after the first `from` entries
pub record RowSight (C : Type 0) : Type 0 where
  pub row : ℕ
  pub from : ℕ
  pub bundles : List (Kept C)

-- a bundle that stood in a row at an index, with its stamp
pub record Job : Type 0 where
  pub row : ℕ
  pub index : ℕ
  pub stamp : ℕ
  pub bins : List (List Member)

-- the tags of the members in rows of bundles, with their labels
abbrev pub labels_in : List Row → List (List ℕ × List ℕ)
labels_in rows = flat_map (λ row. map (λ m. (m.1.tag, m.1.label)) (members_of_row row)) rows

-- a start from these rows: its labels are those of their members
abbrev pub start_from : List Row → BookStart
start_from rows = record { labels = labels_in rows; rows = rows }

-- no tags, no bundles
abbrev pub empty_start : Parameters → BookStart
empty_start p = record { labels = []; rows = replicate p.rows [] }

-- a version that a journal may start from: sound, without entries, each stamp 0
pub record IsStart (v : Version) : Type 0 where
  pub sound : IsSound v
  pub no_entries : v.count ≡ 0
  pub no_stamps : All (λ row. All (λ u. u.stamp ≡ 0) row) v.rows

module _ {C : Type 0} where
  -- the bundle with its stamp alone
  abbrev pub stamped_of : Kept C → Stamped
  stamped_of k = record { stamp = k.stamp; bins = k.bins }

  -- the bundles of a row alone
  abbrev pub row_of : List (Kept C) → Row
  row_of ks = map stamped_of ks

  -- the bundles of all rows
  abbrev pub rows_of : List (List (Kept C)) → List Row
  rows_of rows = map row_of rows

  -- how many bundles there are
  abbrev pub bundles_of : List (List (Kept C)) → ℕ
  bundles_of rows = sum (map (λ row. length row) rows)

  -- the book's version: its journal has as many entries as the version counts
  abbrev pub version_of : Contents C → Version
  version_of h = record { parameters = h.parameters; count = length h.journal; labels = fin.from_entries h.labels; rows = rows_of h.rows }

  -- the version that the journal starts from
  abbrev pub start_of : Contents C → Version
  start_of h = record { parameters = h.parameters; count = 0; labels = fin.from_entries h.start.labels; rows = h.start.rows }

  -- the contents of a new book: it starts from the empty version
  abbrev pub empty_contents : Parameters → Contents C
  empty_contents p = record { parameters = p; start = empty_start p; labels = []; rows = replicate p.rows []; journal = []; room = 0 }

  -- the same contents, whatever room there is for entries
  abbrev pub IsAsBefore : Contents C → Contents C → Type 0
  IsAsBefore old new = new ≡ record old { room = new.room }

  -- row number r
  abbrev pub kept_row : List (List (Kept C)) → ℕ → List (Kept C)
  kept_row rows r = slice_index_or rows r []

  -- what stands past the end of a row: no bundle
  abbrev pub no_bundle : Kept C
  no_bundle = record { stamp = 0; bins = []; cache = None }

  -- bundle number u of a row
  abbrev pub kept_at : List (Kept C) → ℕ → Kept C
  kept_at row u = slice_index_or row u no_bundle

  -- the bundle is as it was; or it has no cache, and has this stamp or is gone
  abbrev pub IsSameOrBare : ℕ → Kept C → Kept C → Type 0
  IsSameOrBare stamp old new = (new ≡ old) ⊎ (((new.stamp ≡ stamp) ⊎ (new ≡ no_bundle)) × (new.cache ≡ None))

  -- each bundle of a row is as it was, with its cache, or has this stamp and no cache, or is gone
  abbrev pub RowKeepsCaches : ℕ → List (Kept C) → List (Kept C) → Type 0
  RowKeepsCaches stamp old new = (u : ℕ) → IsSameOrBare stamp (kept_at old u) (kept_at new u)

  -- the same in each row
  abbrev pub KeepCaches : ℕ → List (List (Kept C)) → List (List (Kept C)) → Type 0
  KeepCaches stamp old new = (r : ℕ) → RowKeepsCaches stamp (kept_row old r) (kept_row new r)

  -- One step of a book: parameters and start stay, the call is answered as the step answers it, the version is the step's, the journal has one entry more, and each bundle that is not as it was has no cache. It leaves open what room there is.
  pub record IsStep (old new : Contents C) (c : Call) (answer : Answer) : Type 0 where
    pub same_parameters : new.parameters ≡ old.parameters
    pub same_start : new.start ≡ old.start
    pub answered : answer ≡ (step (version_of old) c).answer
    pub version : version_of new ≡ (step (version_of old) c).version
    pub journal : new.journal ≡ old.journal ++ record { call = c; answer = answer } ∷ []
    pub caches : KeepCaches (length old.journal + 1) old.rows new.rows

  -- What a step of a book needs: some rows and members, and numbers that are small enough to count in.
  pub record CanStep (h : Contents C) : Type 0 where
    pub some_rows : 1 ≤ h.parameters.rows
    pub few_rows : h.parameters.rows ≤ 4
    pub some_members : 1 ≤ h.parameters.capacity
    pub few_units : h.parameters.units ≤ 4
    pub each_row : length h.rows ≡ h.parameters.rows
    pub few_bundles : bundles_of h.rows ≤ 64
    pub few_entries : length h.journal ≤ most_entries

  -- A cache beside a bundle is for that bundle. `contents` are the bins that a cache is for, and it is for them under the parameters with these bytes.
  abbrev pub CacheSuits : (C → List (List Member)) → (C → List ℕ → Type 0) → Parameters → Kept C → Type 0
  CacheSuits contents is_under p k = IfSome k.cache (λ c. (contents c ≡ k.bins) × is_under c (parameter_bytes p))

  -- Tags and labels are bytes, in the start and in the version; so they are in each call of the journal, whose labels have the set's length.
  pub record HoldsBytes (h : Contents C) : Type 0 where
    pub start : HoldBytes (start_of h).labels
    pub calls : All (λ e. IsFitting h.parameters e.call × HasBytes e.call) h.journal
    pub version : HoldBytes (version_of h).labels

  -- What is always true of a book.
  pub record IsConsistent (contents : C → List (List Member)) (is_under : C → List ℕ → Type 0) (h : Contents C) : Type 0 where
    -- the parameters are allowed
    pub passed : ArePassed h.parameters
    -- the version is sound
    pub sound : IsSound (version_of h)
    -- the start is sound, without entries, each stamp 0
    pub begun : IsStart (start_of h)
    -- the journal has at most 2^20 entries, each with the answer of its step, and they lead from the start to the version
    pub few : length h.journal ≤ most_entries
    pub legal : IsLegal (start_of h) h.journal
    pub replayed : replay (start_of h) h.journal ≡ version_of h
    -- each cache is for the bundle where it stands, under the book's parameters
    pub caches : (r u : ℕ) → CacheSuits contents is_under h.parameters (kept_at (kept_row h.rows r) u)
    -- tags and labels are bytes
    pub bytes : HoldsBytes h
