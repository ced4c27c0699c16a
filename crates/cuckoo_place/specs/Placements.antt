-- Placements of items at positions, as in cuckoo hashing (Pagh and Rodler, 2004): each item stands at one of the positions of
-- its set, and no two at the same. Crowded items are those that break the condition of Hall (1935).
use Rattle.std.specs.Prelude.{◌≡◌, ◌≢◌, ℕ, ◌<◌, List, [], length, take, slice_index, slice_index_or, ◌==◌}
use Rattle.std.specs.List.{All, Contains, flat_map}
use Rattle.std.specs.List.Sorted.{IsStrictlyIncreasing}
use Rattle.std.specs.Set.{distinct_count}
use Rattle.cuckoo_place.specs.declared.Unplaced.{Unplaced}
use Rattle.cuckoo_place.specs.declared.Unplaced.TheVariants.{Crowded, NoMemory}

-- the positions of an item's set
abbrev pub positions_at : List (List ℕ) → ℕ → List ℕ
positions_at sets i = slice_index_or sets i []

-- each set gives one of its positions, no two the same
pub record IsPlacement (sets : List (List ℕ)) (places : List ℕ) : Type 0 where
  pub one_each : length places ≡ length sets
  pub own : (i : ℕ) → i < length sets → Contains (positions_at sets i) (slice_index places i)
  pub apart : (i j : ℕ) → i < j → j < length sets → slice_index places i ≢ slice_index places j

-- one list is below another in lexicographic order: it is less at the first place where they differ
abbrev pub IsBelow : List ℕ → List ℕ → Type 0
IsBelow xs ys = (k : ℕ) × (k < length ys) × (take k xs ≡ take k ys) × (slice_index xs k < slice_index ys k)

-- the least placement in lexicographic order
pub record IsFirstPlacement (sets : List (List ℕ)) (places : List ℕ) : Type 0 where
  pub placement : IsPlacement sets places
  pub least : (others : List ℕ) → IsPlacement sets others → ¬ IsBelow others places

-- items in rising order whose positions together are fewer than they
pub record IsCrowded (sets : List (List ℕ)) (items : List ℕ) : Type 0 where
  pub rising : IsStrictlyIncreasing items
  pub known : All (λ i. i < length sets) items
  pub too_many : distinct_count (λ p q. p == q) (flat_map (positions_at sets) items) < length items

-- there is no placement
abbrev pub HasNoPlacement : List (List ℕ) → Type 0
HasNoPlacement sets = (places : List ℕ) → ¬ IsPlacement sets places

-- a fact about the items, where a cause names some
abbrev pub ForCrowded : (List ℕ → Type 0) → Unplaced → Type 0
ForCrowded P (Crowded items) = P items.items
ForCrowded P NoMemory = Unit {0}
