-- The parameters of a set and its queries, as its two ends agree on them.
use Rattle.std.specs.Prelude.{ℕ, List, [], ◌∷◌, ◌++◌}
use Rattle.std.specs.Int.{bytes_high_first}

-- the form of the reply, the rows of bins, the members of a bin, the label units, the bits dropped, and what is spare
pub record Parameters : Type 0 where
  pub form : ℕ
  pub rows : ℕ
  pub capacity : ℕ
  pub units : ℕ
  pub drop : ℕ
  pub spare : ℕ

-- their 8 bytes
abbrev pub parameter_bytes : Parameters → List ℕ
parameter_bytes p = (p.form ∷ p.rows ∷ []) ++ bytes_high_first 2 p.capacity ++ (p.units ∷ p.drop ∷ []) ++ bytes_high_first 2 p.spare
