-- Numbers by their residues modulo the two moduli, which have no divisor in common.
use Rattle.std.proofs.Common.{◌≡◌, ℕ, ◌+◌, ◌-◌, ◌*◌, ◌%◌, ◌<◌, ◌∙◌, arith}
use Rattle.std.proofs.Math.Nat.{mod-mod}
use Rattle.psi_residue.specs.Numbers.{first_modulus, second_modulus, cipher_modulus}
use Rattle.psi_residue.specs.Residues.{composed, first_inverse}

-- two numbers with the same residues modulo both are the same modulo their product
pub same_residues : (x y : ℕ) → x % first_modulus ≡ y % first_modulus → x % second_modulus ≡ y % second_modulus → x % cipher_modulus ≡ y % cipher_modulus
same_residues x y first second = omega (arith, first, second)

-- the composed number has these residues, and is below the ciphertext modulus where the first one is reduced
pub composed-first : (a b : ℕ) → composed a b % first_modulus ≡ a % first_modulus
unfolding composed
composed-first a b = omega arith

pub composed-second : (a b : ℕ) → composed a b % second_modulus ≡ b % second_modulus
unfolding composed first_inverse
composed-second a b = omega arith

pub composed-below : (a b : ℕ) → a < first_modulus → composed a b < cipher_modulus
unfolding composed
composed-below a b below = omega (arith, below)

-- a number with the residues a and b of a composed one is that, modulo the ciphertext modulus
pub composed-is : (a b x : ℕ) → a % first_modulus ≡ x % first_modulus → b % second_modulus ≡ x % second_modulus
    → composed a b % cipher_modulus ≡ x % cipher_modulus
composed-is a b x e f = same_residues (composed a b) x (composed-first a b ∙ e) (composed-second a b ∙ f)

-- and below that it is the only one
pub composed-only : (x : ℕ) → x < cipher_modulus → composed (x % first_modulus) (x % second_modulus) ≡ x
composed-only x below =
    let reduced : x % first_modulus < first_modulus = omega arith in
    let small = composed-below (x % first_modulus) (x % second_modulus) reduced in
    let same = composed-is (x % first_modulus) (x % second_modulus) x (mod-mod x first_modulus) (mod-mod x second_modulus) in
    omega (arith, same, small, below)

-- the steps of Garner's formula
pub composed-steps : (a b less rest : ℕ) → less ≡ (b + (second_modulus - a % second_modulus)) % second_modulus → rest ≡ less * first_inverse % second_modulus
    → a + first_modulus * rest ≡ composed a b
unfolding composed first_inverse
composed-steps a b less rest difference product = omega (arith, difference, product)

-- the three numbers as the code has them
pub composed-from : (a b less rest x y z : ℕ) → less ≡ (b + (second_modulus - a % second_modulus)) % second_modulus → rest ≡ less * first_inverse % second_modulus
    → x ≡ a → y ≡ first_modulus → z ≡ rest → x + y * z ≡ composed a b
composed-from a b less rest x y z difference product first modulus last = rw (first, modulus, last) (composed-steps a b less rest difference product)

pub composed-split : (x y z : ℕ) → x < cipher_modulus → y ≡ first_modulus → z ≡ second_modulus → composed (x % y) (x % z) ≡ x
composed-split x y z below first second = rw (first, second) (composed-only x below)
