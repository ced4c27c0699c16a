-- A number modulo q by its two residues: its quotient by the second modulus, with no division, and that rounded.
use Rattle.std.proofs.Common.{◌≡◌, ℕ, ◌+◌, ◌-◌, ◌*◌, ◌/◌, ◌%◌, ◌<◌, ◌≤◌, ap, ◌∙◌, arith}
use Rattle.psi_residue.specs.Numbers.{first_modulus, second_modulus}
use Rattle.psi_residue.specs.Residues.{composed, first_inverse}
use Rattle.psi_residue.specs.ShortCiphertexts.{rounded}
use Rattle.negacyclic.proofs.Shoup.{rest_same, wrapped}

-- the number less what the quotient has
abbrev pub difference : (a b : ℕ) → ℕ
difference a b = a + (2 * first_modulus - b)

-- how often the first modulus goes into the product, but for one
abbrev pub high : (d : ℕ) → ℕ
high d = d * 7027438304261431686 / 18446744073709551616

divided : (a b : ℕ) → a < first_modulus → b < second_modulus → b + second_modulus * (difference a b * 26179219651 % first_modulus) ≡ composed a b
unfolding composed first_inverse
divided a b la lb = omega (arith, la, lb)

high-below : (d : ℕ) → d < 274877906944 → high d * first_modulus ≤ d * 26179219651
high-below d lt = omega (arith, lt)

high-near : (d : ℕ) → d < 274877906944 → d * 26179219651 < high d * first_modulus + (first_modulus + 1024)
high-near d lt = omega (arith, lt)

-- the difference of the two products, which is taken in 64 bits
product-is : (d : ℕ) → d < 274877906944
    → (d * 26179219651 % 18446744073709551616 + (18446744073709551616 - high d * first_modulus % 18446744073709551616)) % 18446744073709551616
    ≡ d * 26179219651 - high d * first_modulus
product-is d lt = let near = high-near d lt in wrapped (d * 26179219651) (high d * first_modulus) (high-below d lt) (omega (arith, near))

pub quotient-whole : (a b result : ℕ) → a < first_modulus → b < second_modulus
    → result ≡ (difference a b * 26179219651 % 18446744073709551616 + (18446744073709551616 - high (difference a b) * first_modulus % 18446744073709551616)) % 18446744073709551616
    → b + second_modulus * (result % first_modulus) ≡ composed a b
quotient-whole a b result la lb e =
    let d : ℕ = difference a b in
    let small : d < 274877906944 = omega (arith, la, lb) in
    ap (λ (u : ℕ). b + second_modulus * (u % first_modulus)) (e ∙ product-is d small)
    ∙ ap (λ (u : ℕ). b + second_modulus * u) (rest_same first_modulus (d * 26179219651) (high d) (high-below d small))
    ∙ divided a b la lb

pub quotient-below : (a b result : ℕ) → a < first_modulus → b < second_modulus
    → result ≡ (difference a b * 26179219651 % 18446744073709551616 + (18446744073709551616 - high (difference a b) * first_modulus % 18446744073709551616)) % 18446744073709551616
    → result < first_modulus + 1024
quotient-below a b result la lb e =
    let d : ℕ = difference a b in
    let small : d < 274877906944 = omega (arith, la, lb) in
    let near = high-near d small in
    let is = e ∙ product-is d small in
    below (d * 26179219651) (high d * first_modulus) result near is
  where
    below : (p t r : ℕ) → p < t + (first_modulus + 1024) → r ≡ p - t → r < first_modulus + 1024
    below p t r lt is = omega (arith, lt, is)

-- x = b + q2·(r modulo q1), rounded
nearest : (b r carry x : ℕ) → b < second_modulus → b + second_modulus * (r % first_modulus) ≡ x → carry ≡ 2 * b / second_modulus
    → (2 * x + second_modulus) / (2 * second_modulus) ≡ r % first_modulus + carry
nearest b r carry x lb e more = by_rest (r % first_modulus) e
  where
    by_rest : (k : ℕ) → b + second_modulus * k ≡ x → (2 * x + second_modulus) / (2 * second_modulus) ≡ k + carry
    by_rest k whole = omega (arith, lb, whole, more)

pub rounded-small : (b r carry x : ℕ) → b < second_modulus → b + second_modulus * (r % first_modulus) ≡ x → carry ≡ 2 * b / second_modulus
    → r + carry < first_modulus → r + carry ≡ rounded x
unfolding rounded
rounded-small b r carry x lb e more lt =
    let whole = nearest b r carry x lb e more in
    omega (arith, whole, lt)

pub rounded-large : (b r carry x : ℕ) → b < second_modulus → b + second_modulus * (r % first_modulus) ≡ x → carry ≡ 2 * b / second_modulus
    → first_modulus ≤ r + carry → r < first_modulus + 1024 → r + carry - first_modulus ≡ rounded x
unfolding rounded
rounded-large b r carry x lb e more le below =
    let whole = nearest b r carry x lb e more in
    let one : carry ≤ 1 = omega (arith, lb, more) in
    omega (arith, whole, le, below, one)
