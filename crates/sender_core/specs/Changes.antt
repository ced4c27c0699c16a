-- What is done to a tag's member in a bin.
use Rattle.std.specs.Prelude.{ℕ, List, None, slice_set, if◌then◌else◌}
use Rattle.psi_bundle.specs.declared.member.Member.{Member}
use Rattle.psi_bundle.specs.Bins.{bin_at, holds, relabelled, without}
use Rattle.sender_core.specs.Kept.{Kept, kept_row, kept_at}
use Rattle.sender_core.specs.declared.rows.Change.{Change}
use Rattle.sender_core.specs.declared.rows.Change.TheVariants as change

-- the bin after a change of the tag's member
abbrev pub bin_after : Change → List ℕ → List Member → List Member
bin_after (change.Relabel label) tag bin = relabelled bin tag label
bin_after change.Remove tag bin = without bin tag

-- a bundle after the change in bin b, where that bin holds the tag: with this stamp, and without a cache
abbrev pub changed_bundle : {C : Type 0} → (stamp b : ℕ) → Change → List ℕ → Kept C → Kept C
changed_bundle stamp b c tag k =
    if holds (bin_at k.bins b) tag then record { stamp = stamp; bins = slice_set k.bins b (bin_after c tag (bin_at k.bins b)); cache = None } else k

-- the rows after the change in bundle u of row r
abbrev pub with_changed : {C : Type 0} → (stamp b : ℕ) → Change → List ℕ → List (List (Kept C)) → (r u : ℕ) → List (List (Kept C))
with_changed stamp b c tag rows r u = slice_set rows r (slice_set (kept_row rows r) u (changed_bundle stamp b c tag (kept_at (kept_row rows r) u)))

-- a bundle with this stamp, and without a cache
abbrev pub bare_with : {C : Type 0} → (stamp : ℕ) → List (List Member) → Kept C
bare_with stamp bins = record { stamp = stamp; bins = bins; cache = None }
