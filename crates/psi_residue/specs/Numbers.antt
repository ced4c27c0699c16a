-- The numbers of the encryption scheme of Fan and Vercauteren (2012), with the values that this project takes.
use Rattle.std.specs.Prelude.{ℕ, ◌*◌, ◌/◌, ◌%◌}
use Rattle.psi_residue.specs.declared.numbers.Modulus.{Modulus}
use Rattle.psi_residue.specs.declared.numbers.Modulus.TheVariants as moduli

-- the number of coefficients of a polynomial: the ring is that of the polynomials modulo x^4096 + 1
abbrev pub ring_degree : ℕ
ring_degree = 4096

-- the plaintext modulus, the prime 2^16 + 1
abbrev pub plain_modulus : ℕ
plain_modulus = 65537

-- the two residue moduli of a ciphertext
abbrev pub first_modulus : ℕ
first_modulus = 68719403009

abbrev pub second_modulus : ℕ
second_modulus = 68719230977

-- the ciphertext modulus
abbrev pub cipher_modulus : ℕ
cipher_modulus = first_modulus * second_modulus

-- a plaintext is scaled by this number in a ciphertext
abbrev pub scale : ℕ
scale = cipher_modulus / plain_modulus

-- what scaling leaves of the ciphertext modulus
abbrev pub scale_rest : ℕ
scale_rest = cipher_modulus % plain_modulus

-- the number that a modulus stands for
abbrev pub modulus_of : Modulus → ℕ
modulus_of moduli.Q1 = first_modulus
modulus_of moduli.Q2 = second_modulus
modulus_of moduli.T = plain_modulus

-- a number whose power of the ring's degree is -1 modulo the plaintext modulus
unfoldable pub root : ℕ
root = 6561

-- its inverse modulo the plaintext modulus
unfoldable pub root_inverse : ℕ
root_inverse = 58355

-- the inverse of the ring's degree modulo the plaintext modulus
unfoldable pub degree_inverse : ℕ
degree_inverse = 65521

-- for each modulus, a number whose power of the ring's degree is -1 modulo it
unfoldable pub root_of : Modulus → ℕ
root_of moduli.Q1 = 5546991020
root_of moduli.Q2 = 41019061109
root_of moduli.T = root

-- its inverse modulo that modulus
unfoldable pub root_inverse_of : Modulus → ℕ
root_inverse_of moduli.Q1 = 3420924950
root_inverse_of moduli.Q2 = 47889506294
root_inverse_of moduli.T = root_inverse

-- the inverse of the ring's degree modulo that modulus
unfoldable pub degree_inverse_of : Modulus → ℕ
degree_inverse_of moduli.Q1 = 68702625811
degree_inverse_of moduli.Q2 = 68702453821
degree_inverse_of moduli.T = degree_inverse
