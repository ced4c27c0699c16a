-- The polynomial through some points is the interpolated one.
use Rattle.std.proofs.Common.{◌≡◌, ℕ, suc, ◌%◌, ◌<◌, ◌≤◌, List, [], ◌∷◌, length, map, eqb, get_or, slice_index, ap, subst, ◌∙◌, sym, inl, inr, arith}
use Rattle.std.specs.List.{All, AllByRecursion, IsDistinct}
use Rattle.std.proofs.lemmas.Bool.{cases_lt}
use Rattle.std.proofs.lemmas.List.{length-map, get_or_default}
use Rattle.psi_residue.specs.Polynomials.{value_at}
use Rattle.psi_residue.specs.Interpolation.{interpolated}
use Rattle.bin_poly.specs.Horner.{horner}
use Rattle.bin_poly.proofs.Horner.{nested-congruent, value_at-horner, horner-any_length, past_end}
use Rattle.bin_poly.proofs.Products.{coefficient_below}
use Rattle.label_interp.specs.Points.{place_at, value_of, newton_value, OneAlone}
use Rattle.label_interp.proofs.Forms.{place-mapped}
use Rattle.label_interp.proofs.Unique.{values-decide}
use Rattle.label_interp.proofs.Lagrange.{interpolated-below, interpolated-past, interpolated-takes}

-- a fact of each element by its index
by_index : (P : ℕ → Type 0) (xs : List ℕ) → ((i : ℕ) → i < length xs → P (get_or xs i 0)) → AllByRecursion P xs
by_index P [] each = tt
by_index P (x ∷ xs) each = (each 0 (omega arith), by_index P xs (λ i lt. each (suc i) (omega arith)))

-- a fact of each point's first number
of_places : (P : ℕ → Type 0) (points : List (ℕ × ℕ)) → ((i : ℕ) → i < length points → P (place_at points i)) → AllByRecursion P (map (λ p. p.0) points)
of_places P points each =
    by_index P (map (λ p. p.0) points) (λ i lt. subst P (sym (place-mapped points i)) (each i (omega (arith, length-map points (λ (p : ℕ × ℕ). p.0)))))

-- a polynomial with few coefficients that takes the second numbers at the first has the interpolated coefficients
pub interpolated-alone : (points : List (ℕ × ℕ)) (f : ℕ → ℕ) → All (λ p. (p.0 < 65537) × (p.1 < 65537)) points → IsDistinct eqb (map (λ p. p.0) points)
    → ((i : ℕ) → length points ≤ i → f i ≡ 0) → ((i : ℕ) → f i < 65537)
    → ((j : ℕ) → j < length points → horner f (place_at points j) (length points) 0 % 65537 ≡ value_of points j)
    → (k : ℕ) → f k ≡ interpolated points k
interpolated-alone points f below distinct past f-below takes k =
    values-decide (map (λ p. p.0) points) small distinct f (interpolated points) (length points) (sym (length-map points (λ (p : ℕ × ℕ). p.0)))
    past (interpolated-past points) f-below (interpolated-below points)
    (of_places (λ x. horner f x (length points) 0 % 65537 ≡ horner (interpolated points) x (length points) 0 % 65537) points
    (λ j lt. takes j lt ∙ sym (interpolated-takes points j lt small distinct ((below j (0, 0) lt).1)))) k
  where
    small : AllByRecursion (λ a. a < 65537) (map (λ p. p.0) points)
    small = of_places (λ a. a < 65537) points (λ j lt. (below j (0, 0) lt).0)

-- the value of a list with few coefficients
pub value_at-few : (polynomial : List ℕ) (n x : ℕ) → ((k : ℕ) → n ≤ k → slice_index polynomial k ≡ 0)
    → value_at 65537 polynomial x ≡ horner (slice_index polynomial) x n 0 % 65537
value_at-few polynomial n x past =
    value_at-horner 65537 polynomial x
    ∙ ap (λ (u : ℕ). u % 65537) (horner-any_length (slice_index polynomial) x (length polynomial) n (past_end polynomial) past)

pub one_alone : OneAlone
one_alone points polynomial below distinct coefficients-below past takes k =
    interpolated-alone points (slice_index polynomial) below distinct past (coefficient_below polynomial coefficients-below)
    (λ j lt. sym (value_at-few polynomial (length points) (place_at points j) past) ∙ takes j (0, 0) lt) k

-- after the places behind are cleared all coefficients are below the modulus
pub filled-below : (n : ℕ) (expanded out : List ℕ) → ((k : ℕ) → k < n → slice_index expanded k < 65537)
    → ((k : ℕ) → k < n → slice_index out k ≡ slice_index expanded k) → ((k : ℕ) → n ≤ k → slice_index out k ≡ 0)
    → (k : ℕ) → slice_index out k < 65537
filled-below n expanded out below front rest k =
    elim (cases_lt k n) [
      | inl lt ↦ subst (λ (u : ℕ). u < 65537) (sym (front k lt)) (below k lt)
      | inr ge ↦ subst (λ (u : ℕ). u < 65537) (sym (rest k ge)) (omega arith)
    ]

-- and the values are those of the form
filled-values : (points : List (ℕ × ℕ)) (form expanded out : List ℕ)
    → ((i : ℕ) → i < length points → newton_value points (slice_index form) (place_at points i) (length points) 0 % 65537 ≡ value_of points i)
    → ((x : ℕ) → horner (slice_index expanded) x (length points) 0 % 65537 ≡ newton_value points (slice_index form) x (length points) 0 % 65537)
    → ((k : ℕ) → k < length points → slice_index out k ≡ slice_index expanded k)
    → (j : ℕ) → j < length points → horner (slice_index out) (place_at points j) (length points) 0 % 65537 ≡ value_of points j
filled-values points form expanded out through values front j lt =
    nested-congruent 65537 (slice_index out) (slice_index expanded) (λ i. place_at points j) (length points) 0
    (λ i low high. ap (λ (u : ℕ). u % 65537) (front i (omega arith)))
    ∙ values (place_at points j)
    ∙ through j lt

pub filled-interpolated : (points : List (ℕ × ℕ)) (form expanded out : List ℕ)
    → All (λ p. (p.0 < 65537) × (p.1 < 65537)) points → IsDistinct eqb (map (λ p. p.0) points)
    → ((i : ℕ) → i < length points → newton_value points (slice_index form) (place_at points i) (length points) 0 % 65537 ≡ value_of points i)
    → ((x : ℕ) → horner (slice_index expanded) x (length points) 0 % 65537 ≡ newton_value points (slice_index form) x (length points) 0 % 65537)
    → ((k : ℕ) → k < length points → slice_index expanded k < 65537)
    → ((k : ℕ) → k < length points → slice_index out k ≡ slice_index expanded k) → ((k : ℕ) → length points ≤ k → slice_index out k ≡ 0)
    → (k : ℕ) → slice_index out k ≡ interpolated points k
filled-interpolated points form expanded out numbers_below distinct through values below front rest k =
    interpolated-alone points (slice_index out) numbers_below distinct rest (filled-below (length points) expanded out below front rest)
    (filled-values points form expanded out through values front) k

pub filled-through : (points : List (ℕ × ℕ)) (form expanded out : List ℕ)
    → ((i : ℕ) → i < length points → newton_value points (slice_index form) (place_at points i) (length points) 0 % 65537 ≡ value_of points i)
    → ((x : ℕ) → horner (slice_index expanded) x (length points) 0 % 65537 ≡ newton_value points (slice_index form) x (length points) 0 % 65537)
    → ((k : ℕ) → k < length points → slice_index out k ≡ slice_index expanded k) → ((k : ℕ) → length points ≤ k → slice_index out k ≡ 0)
    → All (λ p. value_at 65537 out p.0 ≡ p.1) points
filled-through points form expanded out through values front rest k d lt =
    subst (λ (p : ℕ × ℕ). value_at 65537 out p.0 ≡ p.1) (get_or_default points k (0, 0) d lt)
    (value_at-few out (length points) (place_at points k) rest ∙ filled-values points form expanded out through values front k lt)
