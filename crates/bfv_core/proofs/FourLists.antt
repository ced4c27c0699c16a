-- Four residue lists, one after another.
use Rattle.std.proofs.Common.{◌≡◌, ℕ, zero, suc, ◌+◌, ◌<◌, List, [], ◌∷◌, length, set, refl, sym, subst, ◌∙◌, arith, replicate}
use Rattle.psi_residue.specs.Numbers.{first_modulus, second_modulus}
use Rattle.psi_residue.specs.Polynomials.{IsPolynomial}
use Rattle.psi_residue.specs.Ciphertexts.{IsCiphertext, list_at, list_modulus}
use Rattle.psi_residue.proofs.Polynomials.{IsPolynomial-constant}
use Rattle.psi_residue.specs.Ring.{product}
use Rattle.bfv_core.specs.EncryptedLists.{added, list_with_product}
use Rattle.psi_residue.proofs.Filling.{IsFilled, IsFilled-more}

-- a list of four
pub four : (xs : List (List ℕ)) → length xs ≡ 4 → xs ≡ list_at xs 0 ∷ list_at xs 1 ∷ list_at xs 2 ∷ list_at xs 3 ∷ []
four (a ∷ b ∷ c ∷ d ∷ []) len = refl
four [] len = absurd (omega (arith, len))
four (a ∷ []) len = absurd (omega (arith, len))
four (a ∷ b ∷ []) len = absurd (omega (arith, len))
four (a ∷ b ∷ c ∷ []) len = absurd (omega (arith, len))
four (a ∷ b ∷ c ∷ d ∷ e ∷ xs) len = absurd (omega (arith, len))

-- each list of a ciphertext is a polynomial modulo its modulus
pub list-polynomial : (ct : List (List ℕ)) (l : ℕ) → l < 4 → IsCiphertext ct → IsPolynomial (list_modulus l) (list_at ct l)
list-polynomial ct zero lt h = h.c0_first
list-polynomial ct (suc zero) lt h = h.c0_second
list-polynomial ct (suc (suc zero)) lt h = h.c1_first
list-polynomial ct (suc (suc (suc zero))) lt h = h.c1_second
list-polynomial ct (suc (suc (suc (suc l)))) lt h = absurd (omega arith)

-- four lists, one by one
pub four_from : (xs : List (List ℕ)) (a b c d : List ℕ) → length xs ≡ 4 → list_at xs 0 ≡ a → list_at xs 1 ≡ b → list_at xs 2 ≡ c → list_at xs 3 ≡ d → xs ≡ a ∷ b ∷ c ∷ d ∷ []
four_from xs a b c d len ea eb ec ed = four xs len ∙ (λ i. ea i ∷ eb i ∷ ec i ∷ ed i ∷ [])

-- four lists that are one list
pub four_same : (z a b c d : List ℕ) → a ≡ z → b ≡ z → c ≡ z → d ≡ z → a ∷ b ∷ c ∷ d ∷ [] ≡ replicate 4 z
four_same z a b c d ea eb ec ed = λ i. ea i ∷ eb i ∷ ec i ∷ ed i ∷ []

zeros-polynomial : (m : ℕ) (xs : List ℕ) → 0 < m → xs ≡ replicate 4096 0 → IsPolynomial m xs
zeros-polynomial m xs positive e = subst (IsPolynomial m) (sym e) (IsPolynomial-constant m 0 positive)

-- four lists of zeros are a ciphertext
pub zeros-whole : (a b c d : List ℕ) → a ≡ replicate 4096 0 → b ≡ replicate 4096 0 → c ≡ replicate 4096 0 → d ≡ replicate 4096 0 → IsCiphertext (a ∷ b ∷ c ∷ d ∷ [])
zeros-whole a b c d ea eb ec ed = record {
  four = refl;
  c0_first = zeros-polynomial first_modulus a (omega arith) ea;
  c0_second = zeros-polynomial second_modulus b (omega arith) eb;
  c1_first = zeros-polynomial first_modulus c (omega arith) ec;
  c1_second = zeros-polynomial second_modulus d (omega arith) ed;
}

pub list_modulus-positive : (l : ℕ) → 0 < list_modulus l
list_modulus-positive l = grind arith

-- one list more has its product added
pub product-more : (self sum sum' ct : List (List ℕ)) (p wide residues : List ℕ) (l : ℕ) → l < length sum
    → sum' ≡ set sum l (added (list_modulus l) (list_at sum l) (product (list_modulus l) 4096 wide residues)) → wide ≡ p → residues ≡ list_at ct l
    → IsFilled [] (list_with_product self p ct) (list_at self) sum l → IsFilled [] (list_with_product self p ct) (list_at self) sum' (l + 1)
unfolding list_with_product
product-more self sum sum' ct p wide residues l within e same_p same_list h =
    let old : list_at sum l ≡ list_at self l = h.rest l (omega arith) within in
    subst (λ (ys : List (List ℕ)). IsFilled [] (list_with_product self p ct) (list_at self) ys (l + 1)) (sym e)
    (IsFilled-more [] (list_with_product self p ct) (list_at self) sum l _ within (λ i. added (list_modulus l) (old i) (product (list_modulus l) 4096 (same_p i) (same_list i))) h)
