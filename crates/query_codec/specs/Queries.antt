-- The body of a query: the 8 bytes of the parameters, then one ciphertext for each row and power. The ciphertext of row r and power
-- k has the number r · capacity + k - 1 (the layout, and the order of the faults, are this project's own).
use Rattle.std.specs.Prelude.{◌≡◌, ◌<◌, ℕ, ◌+◌, ◌*◌, nat_eq, not, List, ◌++◌, length, take, drop, Option, Some, if◌then◌else◌}
use Rattle.std.specs.Option.{option_map}
use Rattle.std.specs.Cmp.Lexicographic.{pointwise}
use Rattle.psi_residue.specs.Numbers.{ring_degree}
use Rattle.psi_residue.specs.Parameters.{Parameters, parameter_bytes}
use Rattle.query_codec.specs.declared.fault.CodecFault.{CodecFault}
use Rattle.query_codec.specs.declared.fault.CodecFault.TheVariants as faults
use Rattle.query_codec.specs.Ciphertexts.{ciphertext_size, ciphertexts_in, ciphertexts_bytes, residue_modulus, residue_in, wrong_residue}

-- the ciphertexts of a query
abbrev pub powers_of : Parameters → ℕ
powers_of p = p.rows * p.capacity

-- the bytes of a query body
abbrev pub query_length : Parameters → ℕ
query_length p = 8 + ciphertext_size * powers_of p

-- the ciphertexts of a query body
unfoldable pub query_ciphertexts : Parameters → List ℕ → List (List (List ℕ))
query_ciphertexts p body = ciphertexts_in (drop 8 body) (powers_of p)

-- a body is a query under the parameters: its size, the parameters' bytes, and each residue is below its modulus
pub record IsQuery (p : Parameters) (body : List ℕ) : Type 0 where
  pub size : length body ≡ query_length p
  pub header : take 8 body ≡ parameter_bytes p
  pub fit : (i : ℕ) → i < 4 * ring_degree * powers_of p → residue_in (drop 8 body) i < residue_modulus i

-- the first fault of a query body: its length, then its parameters, then its residues
abbrev pub query_fault : Parameters → List ℕ → Option CodecFault
query_fault p body =
    if not (nat_eq (length body) (query_length p)) then Some (faults.Length (query_length p))
    else (if not (pointwise nat_eq (take 8 body) (parameter_bytes p)) then Some faults.WrongParams
    else option_map faults.Residue (wrong_residue (drop 8 body) (4 * ring_degree * powers_of p)))

-- the body of a query of these ciphertexts
unfoldable pub query_body : Parameters → List (List (List ℕ)) → List ℕ
query_body p cts = parameter_bytes p ++ ciphertexts_bytes cts
