-- What a set answers to a query: each plane of each bundle, evaluated at the query's encrypted powers (Chen, Laine, Rindal, CCS 2017).
-- A query has one ciphertext for each row and power; that of row r and power k has the number r·capacity + k - 1.
use Rattle.std.specs.Prelude.{ℕ, ◌+◌, ◌*◌, List, length, map}
use Rattle.std.specs.List.{flat_map, enumerate_from, range_with_len}
use Rattle.psi_residue.specs.Parameters.{Parameters}
use Rattle.psi_residue.specs.Ciphertexts.{ciphertext_at}
use Rattle.psi_residue.specs.Evaluations.{evaluated}
use Rattle.psi_bundle.specs.declared.member.Member.{Member}
use Rattle.psi_bundle.specs.Versions.{Row}
use Rattle.psi_bundle.specs.Planes.{packed_plane, planes_of_bundle}

-- the ciphertext of one plane of a bundle of row r
abbrev pub evaluated_plane : Parameters → (query : List (List (List ℕ))) → (r : ℕ) → List (List Member) → (plane : ℕ) → List (List ℕ)
evaluated_plane p query r bins plane = evaluated p.capacity (packed_plane p bins plane) (λ k. ciphertext_at query (r * p.capacity + k))

-- the ciphertexts of all planes of a bundle, the root plane first
abbrev pub evaluated_bundle : Parameters → (query : List (List (List ℕ))) → (r : ℕ) → List (List Member) → List (List (List ℕ))
evaluated_bundle p query r bins = map (evaluated_plane p query r bins) (range_with_len 0 (planes_of_bundle p))

-- the ciphertexts of a row's bundles
abbrev pub evaluated_row : Parameters → (query : List (List (List ℕ))) → (r : ℕ) → Row → List (List (List ℕ))
evaluated_row p query r row = flat_map (λ u. evaluated_bundle p query r u.bins) row

-- all ciphertexts of the answer: by row, bundle and plane
unfoldable pub evaluated_rows : Parameters → List Row → (query : List (List (List ℕ))) → List (List (List ℕ))
evaluated_rows p rows query = flat_map (λ row. evaluated_row p query row.0 row.1) (enumerate_from 0 rows)

-- the numbers of bundles, by row
abbrev pub bundle_counts : List Row → List ℕ
bundle_counts rows = map (λ row. length row) rows
