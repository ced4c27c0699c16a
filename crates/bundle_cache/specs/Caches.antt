-- A bundle's planes as transforms, one row for each coefficient of each plane, and what a bundle must be so that they can be made.
use Rattle.std.specs.Prelude.{◌≡◌, ℕ, ◌+◌, ◌*◌, ◌/◌, ◌%◌, ◌≤◌, List, ◌++◌, length, map}
use Rattle.std.specs.List.{All, range_with_len}
use Rattle.psi_residue.specs.declared.numbers.Modulus.TheVariants as moduli
use Rattle.psi_residue.specs.Parameters.{Parameters, parameter_bytes}
use Rattle.negacyclic.specs.Transforms.{values_of}
use Rattle.noise_ledger.specs.Verdicts.{ArePassed}
use Rattle.psi_bundle.specs.declared.member.Member.{Member}
use Rattle.psi_bundle.specs.Bins.{AreApart, bin_at}
use Rattle.psi_bundle.specs.Planes.{packed_plane, planes_of_bundle, coefficients_of_plane}
use Rattle.psi_bundle.specs.Versions.{HasLabelLength}
use Rattle.row_block.specs.Rows.{Block}

-- each bin has no more members than the capacity, no two of which share a slot value in the same part, and the labels have the length
-- of the set's labels: so it is with each bundle of a sound version
pub record IsCacheable (p : Parameters) (bins : List (List Member)) : Type 0 where
  pub within_capacity : (b : ℕ) → length (bin_at bins b) ≤ p.capacity
  pub apart : (b : ℕ) → AreApart (bin_at bins b)
  pub labelled : (b : ℕ) → All (λ m. HasLabelLength p m.label) (bin_at bins b)

-- the words of a row: 4096 values modulo each of the two residue moduli
abbrev pub row_words : ℕ
row_words = 8192

-- the rows of a bundle: one for each coefficient of each plane
abbrev pub rows_of_bundle : Parameters → ℕ
rows_of_bundle p = planes_of_bundle p * coefficients_of_plane p

-- a block has the size of a bundle
pub record IsBundleBlock (p : Parameters) (block : Block) : Type 0 where
  pub width : block.width ≡ row_words
  pub number : block.rows ≡ rows_of_bundle p

-- the transforms of a plaintext: its values modulo the first residue modulus, then those modulo the second
unfoldable pub transforms_of : List ℕ → List ℕ
transforms_of plain = values_of moduli.Q1 plain ++ values_of moduli.Q2 plain

-- row number c, with c = plane·(capacity + 1) + k: the transforms of the packing of the plane's k-th coefficients
unfoldable pub bundle_row : Parameters → List (List Member) → ℕ → List ℕ
bundle_row p bins c = transforms_of (packed_plane p bins (c / coefficients_of_plane p) (c % coefficients_of_plane p))

-- all rows of a bundle
abbrev pub bundle_rows : Parameters → List (List Member) → List (List ℕ)
bundle_rows p bins = map (bundle_row p bins) (range_with_len 0 (rows_of_bundle p))

-- a block that holds these rows and no others
abbrev pub holding : Block → List (List ℕ) → Block
holding block rows = record block { held = rows }

-- a cache as contracts see it: the parameters, the bins of its bundle, and the block of its rows
pub record CacheOf : Type 0 where
  pub parameters : Parameters
  pub bins : List (List Member)
  pub block : Block

-- what is true of every cache
pub record IsCache (c : CacheOf) : Type 0 where
  pub passed : ArePassed c.parameters
  pub rows : c.block.held ≡ bundle_rows c.parameters c.bins
  pub width : c.block.width ≡ row_words

-- the bins that a cache is for
abbrev pub cached_bins : CacheOf → List (List Member)
cached_bins c = c.bins

-- it is for them under the parameters with these bytes, which are passed ones
abbrev pub is_cached_under : CacheOf → List ℕ → Type 0
is_cached_under c bytes = ArePassed c.parameters × (bytes ≡ parameter_bytes c.parameters)
