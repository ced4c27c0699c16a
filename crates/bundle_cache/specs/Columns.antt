-- The coefficients of a plane side by side: for each power those of the 4096 slots.
use Rattle.std.specs.Prelude.{◌≡◌, ℕ, ◌+◌, ◌*◌, ◌<◌, ◌≤◌, List, length, take, drop, slice_index}
use Rattle.psi_residue.specs.Numbers.{plain_modulus, ring_degree}
use Rattle.psi_residue.specs.Polynomials.{IsPolynomial}
use Rattle.psi_residue.specs.Parameters.{Parameters}
use Rattle.psi_residue.specs.Slots.{packed_list}
use Rattle.psi_bundle.specs.declared.member.Member.{Member}
use Rattle.psi_bundle.specs.Planes.{coefficients_of_plane, slot_coefficient}
use Rattle.bundle_cache.specs.Caches.{transforms_of}

-- coefficient k of a slot
abbrev pub coefficient_at : List ℕ → (slot k : ℕ) → ℕ
coefficient_at columns slot k = slice_index columns (ring_degree * k + slot)

-- the k-th coefficients of all slots
abbrev pub column : List ℕ → ℕ → List ℕ
column columns k = take ring_degree (drop (ring_degree * k) columns)

-- the row that they are transformed to
unfoldable pub row_of_column : List ℕ → ℕ → List ℕ
row_of_column columns k = transforms_of (packed_list (column columns k))

-- column k is there, and has plaintext values
pub record IsCell (columns : List ℕ) (k : ℕ) : Type 0 where
  pub power : k < 4096
  pub size : ring_degree * (k + 1) ≤ length columns
  pub values : IsPolynomial plain_modulus (column columns k)

-- so it is with each below the count
abbrev pub AreCells : ℕ → List ℕ → Type 0
AreCells count columns = (k : ℕ) → k < count → IsCell columns k

-- a plane's coefficients, for each power up to the capacity
pub record AreColumns (p : Parameters) (bins : List (List Member)) (plane : ℕ) (columns : List ℕ) : Type 0 where
  pub size : length columns ≡ ring_degree * coefficients_of_plane p
  pub each : (slot k : ℕ) → slot < ring_degree → k ≤ p.capacity → coefficient_at columns slot k ≡ slot_coefficient p bins plane slot k

-- the slots below the count have their coefficients, the others 0
pub record AreFilled (p : Parameters) (bins : List (List Member)) (plane count : ℕ) (columns : List ℕ) : Type 0 where
  pub size : length columns ≡ ring_degree * coefficients_of_plane p
  pub done : (slot k : ℕ) → slot < count → k ≤ p.capacity → coefficient_at columns slot k ≡ slot_coefficient p bins plane slot k
  pub rest : (slot k : ℕ) → count ≤ slot → slot < ring_degree → coefficient_at columns slot k ≡ 0

-- the first coefficients, so many, are written at one slot, and all else is as it was
pub record IsWritten (slot : ℕ) (coefficients : List ℕ) (count : ℕ) (old new : List ℕ) : Type 0 where
  pub size : length new ≡ length old
  pub here : (k : ℕ) → k < count → coefficient_at new slot k ≡ slice_index coefficients k
  pub above : (k : ℕ) → count ≤ k → coefficient_at new slot k ≡ coefficient_at old slot k
  pub others : (s k : ℕ) → s < ring_degree → (s ≡ slot → ⊥) → coefficient_at new s k ≡ coefficient_at old s k
