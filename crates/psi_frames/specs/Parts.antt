-- The bytes of a frame that has begun, in two parts.
use Rattle.std.specs.Prelude.{◌≡◌, ℕ, ◌<◌, List, [], ◌++◌, length, slice_index}

-- the first eleven bytes, and the body behind them; there is no body before they are whole
pub record AreParts (head body : List ℕ) : Type 0 where
  pub filled : length head < 11 → body ≡ []
  pub bytes : (i : ℕ) → slice_index (head ++ body) i < 256
