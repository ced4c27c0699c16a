-- A shelf of blocks.
use Rattle.std.specs.Prelude.{◌≡◌, ℕ, ◌≤◌, List, [], length}
use Rattle.std.specs.List.{All}
use Rattle.row_block.specs.Rows.{Block}

-- how many blocks a shelf keeps at most
abbrev pub shelf_room : ℕ
shelf_room = 8

-- what is true of every shelf: it keeps no more blocks than that, and none of them holds a row
pub record IsShelf (blocks : List Block) : Type 0 where
  pub room : length blocks ≤ shelf_room
  pub cleared : All (λ block. block.held ≡ []) blocks
