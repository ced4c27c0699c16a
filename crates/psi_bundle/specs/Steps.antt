-- One call on a set: its answer, and the version after it (the table of steps is this project's own).
use Rattle.std.specs.Prelude.{ℕ, Bool, ◌+◌, List, length, nat_le, ◌&&◌, if◌then◌else◌, is_some, slice_set}
use Rattle.std.specs.FinMap as fin
use Rattle.psi_bundle.specs.declared.history.Call.{Call}
use Rattle.psi_bundle.specs.declared.history.Call.TheVariants as call
use Rattle.psi_bundle.specs.declared.history.Answer.{Answer}
use Rattle.psi_bundle.specs.declared.history.Answer.TheVariants as answer
use Rattle.psi_residue.specs.Parameters.{Parameters}
use Rattle.psi_bundle.specs.Bins.{without, relabelled}
use Rattle.psi_bundle.specs.Versions.{Version, Row, Labels, row_at, placed, changed, members_of_row, packed_row, greatest_stamp, planes_of, cells_of}

-- an answer, and the version after it
pub record Step : Type 0 where
  pub answer : Answer
  pub version : Version

-- the version with one entry more
abbrev pub next : Version → Labels → List Row → Version
next v labels rows = record v { count = v.count + 1; labels = labels; rows = rows }

-- the version with one entry more, and nothing changed
abbrev pub unchanged : Version → Version
unchanged v = next v v.labels v.rows

-- rows within the limits of planes and cells
abbrev pub fits : Parameters → List Row → Bool
fits p rows = nat_le (planes_of p rows) 64 && nat_le (cells_of p rows) 4096

-- Put of a tag in the map: another label, in the map and wherever the tag stands.
abbrev pub replace : Version → List ℕ → List ℕ → Step
replace v tag label = record {
  answer = answer.Replaced;
  version = next v (fin.insert v.labels tag label) (changed v.parameters (v.count + 1) (λ bin. relabelled bin tag label) tag v.rows);
}

-- Put of another tag, where these are the rows after first fit: Added within the limits, and else Full.
abbrev pub add : Version → List ℕ → List ℕ → List Row → Step
add v tag label rows =
    if fits v.parameters rows then record { answer = answer.Added; version = next v (fin.insert v.labels tag label) rows }
    else record { answer = answer.Full (planes_of v.parameters rows) (cells_of v.parameters rows); version = unchanged v }

-- Drop of a tag in the map: it leaves the map and every bin that it stands in; bundles stay, also when empty.
abbrev pub remove : Version → List ℕ → Step
remove v tag = record {
  answer = answer.Removed;
  version = next v (fin.remove v.labels tag) (changed v.parameters (v.count + 1) (λ bin. without bin tag) tag v.rows);
}

-- Repack of a row where no bundle changed after the first `from` entries: first fit of its members, each bundle stamped.
abbrev pub repack : Version → ℕ → Row → Step
repack v r packed = record {
  answer = answer.Done (length (row_at v.rows r)) (length packed);
  version = next v v.labels (slice_set v.rows r packed);
}

-- Each call, by the table of steps. The place of the new entry is the version's count.
unfoldable pub step : Version → Call → Step
step v (call.Put tag label) =
    if is_some (fin.get v.labels tag) then replace v tag label
    else add v tag label (placed v.parameters (v.count + 1) (record { tag = tag; label = label }) v.rows)
step v (call.Drop tag) = if is_some (fin.get v.labels tag) then remove v tag else record { answer = answer.Absent; version = unchanged v }
step v call.Ask = record { answer = answer.Seen; version = unchanged v }
step v (call.Repack r from) =
    if nat_le (greatest_stamp (row_at v.rows r)) from then repack v r (packed_row v.parameters.capacity (v.count + 1) (members_of_row (row_at v.rows r)))
    else record { answer = answer.Moved (greatest_stamp (row_at v.rows r)); version = unchanged v }
