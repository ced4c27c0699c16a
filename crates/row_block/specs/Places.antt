-- How the blocks of a shelf stand in its places.
use Rattle.std.specs.Prelude.{◌≡◌, ◌-◌, Option, Some, None, List, [], ◌∷◌, ◌++◌, length, map, replicate}
use Rattle.row_block.specs.Rows.{Block}
use Rattle.row_block.specs.Shelves.{IsShelf, shelf_room}
use Rattle.row_block.specs.declared.shelf.Shelf.TheInside.{Inside}

-- the blocks in the places, in their order
unfoldable pub blocks_in : List (Option Block) → List Block
blocks_in [] = []
blocks_in (None ∷ places) = blocks_in places
blocks_in (Some block ∷ places) = block ∷ blocks_in places

-- the places with these blocks in front, the others empty
abbrev pub filled : List Block → List (Option Block)
filled blocks = map Some blocks ++ replicate (shelf_room - length blocks) None

-- the blocks that the fields stand for
abbrev pub kept_in : Inside → List Block
kept_in s = blocks_in s.places

-- the blocks stand in front, and are counted
pub record IsStacked (s : Inside) : Type 0 where
  pub places : s.places ≡ filled (kept_in s)
  pub count : s.count ≡ length (kept_in s)
  pub shelf : IsShelf (kept_in s)
