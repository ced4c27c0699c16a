-- The numbers of short ciphertexts as bytes, the highest byte first (the layout is this project's own).
use Rattle.std.specs.Prelude.{ℕ, ◌+◌, ◌-◌, ◌/◌}

-- the bytes of a number of a short ciphertext: as many as 36 bits less the dropped ones need
abbrev pub short_width : (drop : ℕ) → ℕ
short_width drop = (36 - drop + 7) / 8
