-- What stamps tell: a bundle with some stamp is the bundle that stood at its place after as many entries.
use Rattle.std.specs.Prelude.{◌≡◌, ◌⊎◌, ℕ, ◌≤◌, List, [], length, slice_get, Option, Some}
use Rattle.psi_bundle.specs.declared.history.Entry.{Entry}
use Rattle.psi_bundle.specs.Versions.{Version, Row, Stamped, row_at, greatest_stamp}
use Rattle.psi_bundle.specs.Histories.{replay, version_at}
use Rattle.sender_core.specs.Kept.{IsStart}

-- the bundle of a row at an index, if there is one
abbrev pub bundle_at : List Row → (r u : ℕ) → Option Stamped
bundle_at rows r u = slice_get (row_at rows r) u

-- Each stamp of a replay is at most the number of entries, and its bundle stood at that row and index after the first so many.
abbrev pub StampsTell : Type 0
StampsTell =
    (start : Version) (es : List Entry) → IsStart start
    → (r u : ℕ) (b : Stamped) → bundle_at (replay start es).rows r u ≡ Some b
    → (b.stamp ≤ length es) × (bundle_at (version_at start es b.stamp).rows r u ≡ Some b)

-- A row without a stamp above `from` is as it was after the first `from` entries, or has no bundles.
abbrev pub RowsStand : Type 0
RowsStand =
    (start : Version) (es : List Entry) → IsStart start
    → (r from : ℕ) → from ≤ length es → greatest_stamp (row_at (replay start es).rows r) ≤ from
    → (row_at (replay start es).rows r ≡ row_at (version_at start es from).rows r) ⊎ (row_at (replay start es).rows r ≡ [])

-- Equal stamps at one row and index of two beginnings of one history are on equal bundles.
abbrev pub EqualStampsMeanEqualBundles : Type 0
EqualStampsMeanEqualBundles =
    (start : Version) (es : List Entry) → IsStart start
    → (j k r u : ℕ) (a b : Stamped) → bundle_at (version_at start es j).rows r u ≡ Some a → bundle_at (version_at start es k).rows r u ≡ Some b
    → a.stamp ≡ b.stamp → a ≡ b
