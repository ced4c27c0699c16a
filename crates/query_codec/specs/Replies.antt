-- The body of a reply: the 8 bytes of the parameters, for each row the number of its bundles in 2 bytes, then the ciphertexts by row,
-- bundle and plane (the layout, and the order of the faults, are this project's own).
use Rattle.std.specs.Prelude.{◌≡◌, ◌≤◌, ◌<◌, ℕ, ◌+◌, ◌*◌, nat_eq, nat_le, not, List, ◌++◌, length, map, take, drop, Option, Some, if◌then◌else◌}
use Rattle.std.specs.List.{flat_map, range_with_len, sum}
use Rattle.std.specs.Option.{option_map}
use Rattle.std.specs.Cmp.Lexicographic.{pointwise}
use Rattle.byteorder.specs.Endian.{big_number, big_bytes}
use Rattle.psi_residue.specs.Numbers.{ring_degree}
use Rattle.psi_residue.specs.Parameters.{Parameters, parameter_bytes}
use Rattle.psi_bundle.specs.Planes.{planes_of_bundle}
use Rattle.psi_bundle.specs.Versions.{Row}
use Rattle.psi_bundle.specs.Bodies.{bundle_counts, evaluated_rows}
use Rattle.query_codec.specs.declared.fault.CodecFault.{CodecFault}
use Rattle.query_codec.specs.declared.fault.CodecFault.TheVariants as faults
use Rattle.query_codec.specs.Ciphertexts.{ciphertext_in, ciphertext_size, ciphertexts_in, ciphertexts_bytes, residue_modulus, residue_in, wrong_residue}

-- the number of bundles of row r
unfoldable pub row_count : List ℕ → ℕ → ℕ
row_count body r = big_number 2 (drop (8 + 2 * r) body)

-- the numbers of bundles, by row
unfoldable pub reply_counts : Parameters → List ℕ → List ℕ
reply_counts p body = map (row_count body) (range_with_len 0 p.rows)

-- the ciphertexts of a reply with these numbers of bundles: one for each plane of each bundle
abbrev pub reply_planes : Parameters → List ℕ → ℕ
reply_planes p counts = planes_of_bundle p * sum counts

-- the bytes before the ciphertexts
abbrev pub reply_head : Parameters → ℕ
reply_head p = 8 + 2 * p.rows

-- the bytes of a reply body with these numbers of bundles
abbrev pub reply_length : Parameters → List ℕ → ℕ
reply_length p counts = reply_head p + ciphertext_size * reply_planes p counts

-- the ciphertexts of a reply body
unfoldable pub reply_ciphertexts : Parameters → List ℕ → List (List (List ℕ))
reply_ciphertexts p body = ciphertexts_in (drop (reply_head p) body) (reply_planes p (reply_counts p body))

-- a body has a reply's head: the parameters' bytes, a number for each row, and the bytes of as many ciphertexts behind them
pub record IsReplyHead (p : Parameters) (body : List ℕ) : Type 0 where
  pub room : reply_head p ≤ length body
  pub header : take 8 body ≡ parameter_bytes p
  pub size : length body ≡ reply_length p (reply_counts p body)

-- ciphertext number c of a reply body
abbrev pub reply_ciphertext : Parameters → List ℕ → ℕ → List (List ℕ)
reply_ciphertext p body c = ciphertext_in (drop (reply_head p) body) c

-- a body is a reply under the parameters: its head, and each residue is below its modulus
pub record IsReply (p : Parameters) (body : List ℕ) : Type 0 where
  pub head : IsReplyHead p body
  pub fit : (i : ℕ) → i < 4 * ring_degree * reply_planes p (reply_counts p body) → residue_in (drop (reply_head p) body) i < residue_modulus i

-- the first fault of a reply body: too short for the numbers, then its parameters, then its length, then its residues
abbrev pub reply_fault : Parameters → List ℕ → Option CodecFault
reply_fault p body =
    if not (nat_le (reply_head p) (length body)) then Some (faults.Length (reply_head p))
    else (if not (pointwise nat_eq (take 8 body) (parameter_bytes p)) then Some faults.WrongParams
    else (if not (nat_eq (length body) (reply_length p (reply_counts p body))) then Some (faults.Length (reply_length p (reply_counts p body)))
    else option_map faults.Residue (wrong_residue (drop (reply_head p) body) (4 * ring_degree * reply_planes p (reply_counts p body)))))

-- the body of a reply with these numbers of bundles and these ciphertexts
unfoldable pub reply_bytes : Parameters → List ℕ → List (List (List ℕ)) → List ℕ
reply_bytes p counts cts = parameter_bytes p ++ flat_map (big_bytes 2) counts ++ ciphertexts_bytes cts

-- The body of the reply to a query: what these rows of bundles answer to its ciphertexts.
unfoldable pub reply_body : Parameters → List Row → (query : List (List (List ℕ))) → List ℕ
reply_body p rows query = reply_bytes p (bundle_counts rows) (evaluated_rows p rows query)
