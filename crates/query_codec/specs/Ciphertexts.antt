-- Ciphertexts as bytes, one after another. A ciphertext is four lists of 4096 residues of 5 bytes, the highest byte first: c0 modulo
-- the first and the second modulus, then c1 modulo these (the layout is this project's own).
use Rattle.std.specs.Prelude.{◌≡◌, ℕ, ◌+◌, ◌*◌, ◌/◌, ◌<◌, ◌≤◌, nat_lt, not, List, length, map, drop, Option}
use Rattle.std.specs.List.{find, flat_map, range_with_len}
use Rattle.byteorder.specs.Endian.{big_number, big_bytes}
use Rattle.psi_residue.specs.Numbers.{ring_degree}
use Rattle.psi_residue.specs.Sums.{table}
use Rattle.psi_residue.specs.Ciphertexts.{list_modulus}
use Rattle.query_codec.specs.declared.fault.CodecFault.{CodecFault}
use Rattle.query_codec.specs.declared.fault.CodecFault.TheVariants as faults

-- the bytes of a ciphertext
abbrev pub ciphertext_size : ℕ
ciphertext_size = 5 * (4 * ring_degree)

-- the modulus of residue number i
abbrev pub residue_modulus : ℕ → ℕ
residue_modulus i = list_modulus (i / ring_degree)

-- residue number i of the bytes
unfoldable pub residue_in : List ℕ → ℕ → ℕ
residue_in bytes i = big_number 5 (drop (5 * i) bytes)

-- list number k of their residues
unfoldable pub list_in : List ℕ → ℕ → List ℕ
list_in bytes k = table ring_degree (λ i. residue_in bytes (ring_degree * k + i))

-- ciphertext number c: its four lists
unfoldable pub ciphertext_in : List ℕ → ℕ → List (List ℕ)
ciphertext_in bytes c = map (λ l. list_in bytes (4 * c + l)) (range_with_len 0 4)

-- the first n ciphertexts
unfoldable pub ciphertexts_in : List ℕ → ℕ → List (List (List ℕ))
ciphertexts_in bytes n = map (ciphertext_in bytes) (range_with_len 0 n)

-- the number of the first of n residues that is not below its modulus
unfoldable pub wrong_residue : List ℕ → ℕ → Option ℕ
wrong_residue bytes n = find (λ i. not (nat_lt (residue_in bytes i) (residue_modulus i))) (range_with_len 0 n)

-- residues a to b - 1 are below their moduli
abbrev pub AreBelow : List ℕ → (a b : ℕ) → Type 0
AreBelow bytes a b = (i : ℕ) → a ≤ i → i < b → residue_in bytes i < residue_modulus i

-- of residues a to b - 1 number i is the first that is not below its modulus
pub record IsFirstWrong (bytes : List ℕ) (a b i : ℕ) : Type 0 where
  pub from : a ≤ i
  pub within : i < b
  pub before : AreBelow bytes a i
  pub wrong : residue_modulus i ≤ residue_in bytes i

-- the fault of residues a to b - 1: the first that is not below its modulus
abbrev pub IsResidueFault : List ℕ → (a b : ℕ) → CodecFault → Type 0
IsResidueFault bytes a b fault = (i : ℕ) × (fault ≡ faults.Residue i) × IsFirstWrong bytes a b i

-- the bytes are n ciphertexts
pub record AreCiphertexts (bytes : List ℕ) (n : ℕ) : Type 0 where
  pub size : length bytes ≡ ciphertext_size * n
  pub fit : (i : ℕ) → i < 4 * ring_degree * n → residue_in bytes i < residue_modulus i

-- a list of residues as bytes
abbrev pub residue_bytes : List ℕ → List ℕ
residue_bytes residues = flat_map (big_bytes 5) residues

-- the bytes of a ciphertext, and of ciphertexts
unfoldable pub ciphertext_bytes : List (List ℕ) → List ℕ
ciphertext_bytes ct = flat_map residue_bytes ct

unfoldable pub ciphertexts_bytes : List (List (List ℕ)) → List ℕ
ciphertexts_bytes cts = flat_map ciphertext_bytes cts
