-- Bins of members, and when a bin accepts one more (Chen, Laine, Rindal, CCS 2017: simple hashing at the sender).
use Rattle.std.specs.Prelude.{ℕ, Bool, not, List, [], length, map, filter, nat_lt, nat_eq, ◌&&◌, if◌then◌else◌, replicate, slice_index_or}
use Rattle.std.specs.Bool.{IsFalse}
use Rattle.std.specs.List.{AllPairs, list_any}
use Rattle.std.specs.Cmp.Lexicographic.{pointwise}
use Rattle.psi_bundle.specs.declared.member.Member.{Member}
use Rattle.item_slots.specs.Tags.{slot_value, parts, bins_of_row}

-- two tags are the same bytes
abbrev pub same_tag : List ℕ → List ℕ → Bool
same_tag a b = pointwise nat_eq a b

-- two tags have one slot value in common, in the same part
abbrev pub shares_slot : List ℕ → List ℕ → Bool
shares_slot a b = list_any (λ j. nat_eq (slot_value a j) (slot_value b j)) parts

-- no two members of a bin have one in common
abbrev pub AreApart : List Member → Type 0
AreApart bin = AllPairs (λ m other. IsFalse (shares_slot m.tag other.tag)) bin

-- a bin with fewer members than the capacity accepts a tag that shares no slot value with any of them
unfoldable pub accepts : ℕ → List Member → List ℕ → Bool
accepts capacity bin tag = nat_lt (length bin) capacity && not (list_any (λ m. shares_slot m.tag tag) bin)

-- the tag is that of a member of the bin
unfoldable pub holds : List Member → List ℕ → Bool
holds bin tag = list_any (λ m. same_tag m.tag tag) bin

-- the bin without the tag's member
unfoldable pub without : List Member → List ℕ → List Member
without bin tag = filter (λ m. not (same_tag m.tag tag)) bin

-- the bin with another label for the tag
unfoldable pub relabelled : List Member → List ℕ → List ℕ → List Member
relabelled bin tag label = map {A = Member} {B = Member} (λ m. if same_tag m.tag tag then record m { label = label } else m) bin

-- A bundle is its 819 bins. The empty one:
unfoldable pub empty_bins : List (List Member)
empty_bins = replicate bins_of_row []

-- bin number b of a bundle
abbrev pub bin_at : List (List Member) → ℕ → List Member
bin_at bins b = slice_index_or bins b []

-- the slot values of one part of a bin's members, in their order: the roots of that part
abbrev pub roots_of : List Member → ℕ → List ℕ
roots_of bin part = map (λ m. slot_value m.tag part) bin
