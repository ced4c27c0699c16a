-- A block of rows as contracts see it, and what its calls make of it.
use Rattle.std.specs.Prelude.{◌≡◌, ℕ, ◌*◌, ◌^◌, ◌<◌, ◌≤◌, List, [], ◌∷◌, ◌++◌, length}
use Rattle.std.specs.List.{All}

-- The rows that are held, in the order in which they were pushed; how many rows there is room for; and how many words a row has
pub record Block : Type 0 where
  pub held : List (List ℕ)
  pub rows : ℕ
  pub width : ℕ

-- what is true of every block
pub record IsBlock (block : Block) : Type 0 where
  pub room : length block.held ≤ block.rows
  pub one_row : 1 ≤ block.rows
  pub one_word : 1 ≤ block.width
  pub small : block.rows * block.width ≤ 2 ^ 25
  pub wide : All (λ row. length row ≡ block.width) block.held
  pub words : All (λ row. All (λ word. word < 2 ^ 64) row) block.held

-- a block that holds no row
abbrev pub empty_block : ℕ → ℕ → Block
empty_block rows width = record { held = []; rows = rows; width = width }

-- the block with one row more
abbrev pub pushed : Block → List ℕ → Block
pushed block row = record block { held = block.held ++ row ∷ [] }

-- the block without its rows; its room stays
abbrev pub cleared : Block → Block
cleared block = record block { held = [] }
