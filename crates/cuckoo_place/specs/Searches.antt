-- The search for places: who holds which position, and what a search that moves items along chains leaves.
use Rattle.std.specs.Prelude.{◌≡◌, ℕ, ◌+◌, ◌<◌, ◌≤◌, Bool, true, false, List, [], ◌∷◌, length, Option, None, Some, nat_lt, slice_index, slice_index_or, if◌then◌else◌, ◌⊎◌}
use Rattle.std.specs.List.{Contains}
use Rattle.std.specs.List.Sorted.{IsStrictlyIncreasing}
use Rattle.cuckoo_place.specs.Placements.{positions_at, IsPlacement}

-- where an item may be: at its fixed place, or at any position of its set
abbrev pub choices_of : List (List ℕ) → List ℕ → ℕ → List ℕ
choices_of sets fixed i = if nat_lt i (length fixed) then slice_index fixed i ∷ [] else positions_at sets i

-- every choice is a position of the table
abbrev pub AreChoicesBelow : (table : ℕ) → (ℕ → List ℕ) → Type 0
AreChoicesBelow table choices = (i p : ℕ) → Contains (choices i) p → p < table

-- an item holds a position
abbrev pub Holds : List (Option ℕ) → ℕ → ℕ → Type 0
Holds holders i p = slice_index_or holders p None ≡ Some i

-- an item holds some position
abbrev pub IsPlaced : List (Option ℕ) → ℕ → Type 0
IsPlaced holders i = (p : ℕ) × Holds holders i p

-- holders, each at one of its choices and at no other
pub record IsAssignment (count : ℕ) (choices : ℕ → List ℕ) (holders : List (Option ℕ)) : Type 0 where
  pub known : (i p : ℕ) → Holds holders i p → i < count
  pub own : (i p : ℕ) → Holds holders i p → Contains (choices i) p
  pub once : (i p q : ℕ) → Holds holders i p → Holds holders i q → p ≡ q

-- a position was visited
abbrev pub IsSeen : List Bool → ℕ → Type 0
IsSeen seen p = slice_index_or seen p false ≡ true

-- no visited position is forgotten
abbrev pub IsSeenStill : (before after : List Bool) → Type 0
IsSeenStill before after = (p : ℕ) → IsSeen before p → IsSeen after p

-- each of these positions was visited
abbrev pub AreSeen : List Bool → List ℕ → Type 0
AreSeen seen ps = (p : ℕ) → Contains ps p → IsSeen seen p

-- the positions that were not visited
unfoldable pub unseen : List Bool → ℕ
unseen [] = 0
unseen (x ∷ xs) = (if x then 0 else 1) + unseen xs

-- a position has a holder whose choices were all visited
pub record IsStuck (choices : ℕ → List ℕ) (holders : List (Option ℕ)) (seen : List Bool) (p : ℕ) : Type 0 where
  pub holder : ℕ
  pub holds : Holds holders holder p
  pub nowhere : AreSeen seen (choices holder)

-- each position visited since is stuck
abbrev pub AreStuck : (choices : ℕ → List ℕ) (holders : List (Option ℕ)) (before after : List Bool) → Type 0
AreStuck choices holders before after = (p : ℕ) → IsSeen after p → IsSeen before p ⊎ IsStuck choices holders after p

-- a position was vacated: the same items are placed, and no visited position but this has changed hands
pub record IsVacated (count : ℕ) (choices : ℕ → List ℕ) (seen : List Bool) (before after : List (Option ℕ)) (p : ℕ) : Type 0 where
  pub assigned : IsAssignment count choices after
  pub free : slice_index_or after p None ≡ None
  pub kept : (i : ℕ) → IsPlaced before i → IsPlaced after i
  pub only : (i : ℕ) → IsPlaced after i → IsPlaced before i
  pub untouched : (q : ℕ) → IsSeen seen q → (q ≡ p → ⊥) → slice_index_or after q None ≡ slice_index_or before q None

-- an item was placed beside those that were, and no visited position has changed hands
pub record IsSettled (count : ℕ) (choices : ℕ → List ℕ) (seen : List Bool) (before after : List (Option ℕ)) (item : ℕ) : Type 0 where
  pub assigned : IsAssignment count choices after
  pub placed : IsPlaced after item
  pub kept : (i : ℕ) → IsPlaced before i → IsPlaced after i
  pub only : (i : ℕ) → IsPlaced after i → IsPlaced before i ⊎ (i ≡ item)
  pub untouched : (q : ℕ) → IsSeen seen q → slice_index_or after q None ≡ slice_index_or before q None

-- a position could not be vacated: nothing moved
pub record IsNotVacated (choices : ℕ → List ℕ) (before after : List (Option ℕ)) (seen_before seen_after : List Bool) (p : ℕ) : Type 0 where
  pub same : after ≡ before
  pub stuck : IsStuck choices before seen_after p
  pub others : AreStuck choices before seen_before seen_after

-- an item could not be placed: nothing moved
pub record IsNotSettled (choices : ℕ → List ℕ) (before after : List (Option ℕ)) (seen_before seen_after : List Bool) (item : ℕ) : Type 0 where
  pub same : after ≡ before
  pub nowhere : AreSeen seen_after (choices item)
  pub others : AreStuck choices before seen_before seen_after

-- an item could not be placed by a search that began with nothing visited: every visited position is stuck
pub record IsRefused (choices : ℕ → List ℕ) (before after : List (Option ℕ)) (seen : List Bool) (item : ℕ) : Type 0 where
  pub same : after ≡ before
  pub nowhere : AreSeen seen (choices item)
  pub stuck : (p : ℕ) → IsSeen seen p → IsStuck choices before seen p

-- who holds a visited position
abbrev pub reached_at : List (Option ℕ) → List Bool → ℕ → Option ℕ
reached_at holders seen p = if slice_index_or seen p false then slice_index_or holders p None else None

-- items in rising order: one, and the holders of all visited positions
pub record AreReached (holders : List (Option ℕ)) (seen : List Bool) (item : ℕ) (items : List ℕ) : Type 0 where
  pub rising : IsStrictlyIncreasing items
  pub itself : Contains items item
  pub all : (i p : ℕ) → reached_at holders seen p ≡ Some i → Contains items i
  pub only : (i : ℕ) → Contains items i → (i ≡ item) ⊎ ((p : ℕ) × (reached_at holders seen p ≡ Some i))

-- every item is placed, those with a fixed place there
pub record IsFull (sets : List (List ℕ)) (fixed : List ℕ) (holders : List (Option ℕ)) : Type 0 where
  pub assigned : IsAssignment (length sets) (choices_of sets fixed) holders
  pub all : (i : ℕ) → i < length sets → IsPlaced holders i
  pub few : length fixed ≤ length sets
  pub own : (i : ℕ) → i < length fixed → Contains (positions_at sets i) (slice_index fixed i)

-- a list begins with another
abbrev pub Begins : List ℕ → List ℕ → Type 0
Begins fixed places = (i : ℕ) → i < length fixed → slice_index places i ≡ slice_index fixed i

-- no placement begins with these places
abbrev pub NoneBegins : List (List ℕ) → List ℕ → Type 0
NoneBegins sets fixed = (places : List ℕ) → IsPlacement sets places → ¬ Begins fixed places
