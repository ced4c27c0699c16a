-- What a ciphertext of the scheme of Fan and Vercauteren (2012) carries under a key, and what it opens to.
-- A ciphertext (c0, c1) is four lists of residues: c0 modulo the first and the second modulus, then c1 modulo these.
-- A key is a list of small whole numbers.
use Rattle.std.specs.Prelude.{◌≡◌, ℕ, ◌+◌, ◌*◌, ◌/◌, ◌%◌, ◌<◌, ◌≤◌, List, length, slice_index, ℤ, unsigned_abs}
use Rattle.std.specs.List.{All}
use Rattle.psi_residue.specs.Sums.{table}
use Rattle.psi_residue.specs.Numbers.{ring_degree, plain_modulus, first_modulus, second_modulus, cipher_modulus, scale}
use Rattle.psi_residue.specs.Ring.{product_at}
use Rattle.psi_residue.specs.Residues.{composed, residues_of}
use Rattle.psi_residue.specs.Ciphertexts.{list_at}

-- a key whose coefficients are -1, 0 or 1
pub record IsKey (key : List ℤ) : Type 0 where
  pub size : length key ≡ ring_degree
  pub ternary : All (λ s. unsigned_abs s ≤ 1) key

-- coefficient k of c0 + c1·s modulo m
unfoldable pub phase_residue : (m : ℕ) → List ℤ → (c0 c1 : List ℕ) → ℕ → ℕ
phase_residue m key c0 c1 k = (slice_index c0 k + product_at m ring_degree c1 (residues_of m key) k) % m

-- coefficient k of c0 + c1·s modulo the ciphertext modulus
unfoldable pub phase : List ℤ → List (List ℕ) → ℕ → ℕ
phase key ct k = composed (phase_residue first_modulus key (list_at ct 0) (list_at ct 2) k) (phase_residue second_modulus key (list_at ct 1) (list_at ct 3) k)

-- x is y plus a number of size at most the bound, modulo q: the number is `more` less `less`
pub record IsNear (q bound x y : ℕ) : Type 0 where
  pub more : ℕ
  pub less : ℕ
  pub small : more + less ≤ bound
  pub near : (x + less) % q ≡ (y + more) % q

-- Under the key the ciphertext carries the plaintext within the bound: each coefficient of c0 + c1·s - Δ·m is congruent to a number of size at most the bound.
abbrev pub Carries : (bound : ℕ) → List ℤ → List (List ℕ) → List ℕ → Type 0
Carries bound key ct plain = (k : ℕ) → k < ring_degree → IsNear cipher_modulus bound (phase key ct k) (scale * slice_index plain k)

-- what a coefficient opens to: t·x / q, rounded to the nearest whole number, modulo t
unfoldable pub opened_coefficient : ℕ → ℕ
opened_coefficient x = (2 * plain_modulus * x + cipher_modulus) / (2 * cipher_modulus) % plain_modulus

-- the plaintext that a ciphertext opens to under a key
unfoldable pub opening : List ℤ → List (List ℕ) → List ℕ
opening key ct = table ring_degree (λ k. opened_coefficient (phase key ct k))
