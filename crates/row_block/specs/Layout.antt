-- How the rows of a block lie in its memory: one after another from the start.
use Rattle.std.specs.Prelude.{◌≡◌, ℕ, zero, suc, ◌*◌, ◌^◌, ◌<◌, ◌≤◌, List, [], ◌∷◌, length, take, drop}
use Rattle.std.specs.List.{All}
use Rattle.row_block.specs.Rows.{Block}
use Rattle.row_block.specs.declared.block.RowBlock.TheInside.{Inside}

-- the first so many rows of a width in a list of words
unfoldable pub rows_of : ℕ → ℕ → List ℕ → List (List ℕ)
rows_of zero width words = []
rows_of (suc count) width words = take width words ∷ rows_of count width (drop width words)

-- the block that the fields stand for
abbrev pub block_of : Inside → Block
block_of b = record { held = rows_of b.held b.width b.words.written; rows = b.rows; width = b.width }

-- all rows that are held were written, and all rows have room
pub record IsLaidOut (b : Inside) : Type 0 where
  pub room : b.words.room ≡ b.rows * b.width
  pub held : b.held ≤ b.rows
  pub written : b.held * b.width ≤ length b.words.written
  pub one_row : 1 ≤ b.rows
  pub one_word : 1 ≤ b.width
  pub small : b.rows * b.width ≤ 2 ^ 25
  pub words : All (λ word. word < 2 ^ 64) b.words.written
