-- What a book gives out to be used later: views of rows, and bundles without a cache; and when they are of its history.
use Rattle.std.specs.Prelude.{◌≡◌, ℕ, ◌<◌, ◌≤◌, List, [], ◌∷◌, length, Option, Some, None}
use Rattle.std.specs.List.{flat_map, enumerate_from}
use Rattle.psi_bundle.specs.declared.history.Entry.{Entry}
use Rattle.psi_bundle.specs.Versions.{Version, row_at, greatest_stamp}
use Rattle.psi_bundle.specs.Shows.{packed_bins}
use Rattle.psi_bundle.specs.Histories.{version_at}
use Rattle.psi_bundle.specs.declared.member.Member.{Member}
use Rattle.sender_core.specs.Kept.{Kept, Contents, View, RowSight, Job, row_of, kept_row}
use Rattle.sender_core.specs.Stamps.{bundle_at}

-- a task of a history: after some number of its entries that bundle stood there with that stamp
abbrev pub IsJobOf : Version → List Entry → Job → Type 0
IsJobOf start es t = (k : ℕ) × (k ≤ length es) × (bundle_at (version_at start es k).rows t.row t.index ≡ Some (record { stamp = t.stamp; bins = t.bins }))

-- one job where there is no cache, and else none
abbrev pub unless_cached : {C : Type 0} → Option C → Job → List Job
unless_cached None t = t ∷ []
unless_cached (Some c) t = []

module _ {C : Type 0} where
  -- a view of a history: its bundles are that row after its first `from` entries
  abbrev pub IsViewOf : Version → List Entry → RowSight C → Type 0
  IsViewOf start es v = (v.row < start.parameters.rows) × (v.from ≤ length es) × (row_of v.bundles ≡ row_at (version_at start es v.from).rows v.row)

  -- the view of a row as it stands
  abbrev pub row_sight_of : Contents C → ℕ → RowSight C
  row_sight_of h row = record { row = row; from = length h.journal; bundles = kept_row h.rows row }

  -- the view of all bundles as they stand
  abbrev pub sight_of : Contents C → View C
  sight_of h = record { place = length h.journal; rows = h.rows }

  -- bundle number u of row r, if it has no cache
  abbrev pub bare_at : (r u : ℕ) → Kept C → List Job
  bare_at r u k = unless_cached k.cache (record { row = r; index = u; stamp = k.stamp; bins = k.bins })

  -- the bundles of row r without a cache, where these are the bundles from number u on
  abbrev pub bare_row : (r u : ℕ) → List (Kept C) → List Job
  bare_row r u ks = flat_map (λ k. bare_at r k.0 k.1) (enumerate_from u ks)

  -- all bundles without a cache, by row and then index, where these are the rows from number r on
  abbrev pub bare_rows : (r : ℕ) → List (List (Kept C)) → List Job
  bare_rows r rows = flat_map (λ row. bare_row row.0 0 row.1) (enumerate_from r rows)

  -- what a row is packed into: where it has bundles, and no stamp above `from`, the first fit of its members, in no more bundles
  pub record IsPackedFor (h : Contents C) (r from : ℕ) (packed : List (List (List Member))) : Type 0 where
    pub bundled : greatest_stamp (row_of (kept_row h.rows r)) ≤ from → 0 < length (kept_row h.rows r) → packed ≡ packed_bins h.parameters.capacity (row_of (kept_row h.rows r))
    pub fewer : greatest_stamp (row_of (kept_row h.rows r)) ≤ from → 0 < length (kept_row h.rows r) → length packed ≤ length (kept_row h.rows r)
