-- What every step and every history of a labelled set keeps.
use Rattle.std.specs.Prelude.{ℕ, ◌≤◌, List}
use Rattle.std.specs.List.{All}
use Rattle.psi_residue.specs.Parameters.{Parameters}
use Rattle.psi_bundle.specs.declared.history.Entry.{Entry}
use Rattle.psi_bundle.specs.declared.history.Call.{Call}
use Rattle.psi_bundle.specs.Versions.{Version, IsSound, empty_version}
use Rattle.psi_bundle.specs.Steps.{step}
use Rattle.psi_bundle.specs.declared.member.Member.{Member}
use Rattle.psi_bundle.specs.Histories.{version_at, IsFitting, HasBytes, HoldBytes}
use Rattle.sender_core.specs.Kept.{Contents, IsConsistent, start_of}

-- parameters of at least one row, and of at least one member a bin
pub record HasRoom (p : Parameters) : Type 0 where
  pub some_rows : 1 ≤ p.rows
  pub some_members : 1 ≤ p.capacity

-- a set without tags is sound
abbrev pub EmptyIsSound : Type 0
EmptyIsSound = (p : Parameters) → IsSound (empty_version p)

-- one step of a sound set leaves a sound set
abbrev pub StepsKeepSetsSound : Type 0
StepsKeepSetsSound = (v : Version) (c : Call) → HasRoom v.parameters → IsSound v → IsFitting v.parameters c → IsSound (step v c).version

-- each version that a history leads to from a sound set is sound
abbrev pub HistoriesKeepSetsSound : Type 0
HistoriesKeepSetsSound = (v : Version) (es : List Entry) → HasRoom v.parameters → IsSound v → All (λ e. IsFitting v.parameters e.call) es → (k : ℕ) → IsSound (version_at v es k)

-- a set without tags holds bytes
abbrev pub EmptyHoldsBytes : Type 0
EmptyHoldsBytes = (p : Parameters) → HoldBytes (empty_version p).labels

-- where tags and labels are bytes, they are so in each version that a history of such calls leads to
abbrev pub HistoriesKeepBytes : Type 0
HistoriesKeepBytes = (v : Version) (es : List Entry) → HoldBytes v.labels → All (λ e. HasBytes e.call) es → (k : ℕ) → HoldBytes (version_at v es k).labels

-- each version that a book's journal leads to is sound, and its tags and labels are bytes
abbrev pub BooksKeepBytes : {C : Type 0} → (contents : C → List (List Member)) (is_under : C → List ℕ → Type 0) → Type 0
BooksKeepBytes {C = C} contents is_under =
    (h : Contents C) → IsConsistent contents is_under h → (k : ℕ) → IsSound (version_at (start_of h) h.journal k) × HoldBytes (version_at (start_of h) h.journal k).labels
