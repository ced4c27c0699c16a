-- One root more and one root less of a list of roots, and their polynomials.
use Rattle.std.proofs.Common.{◌≡◌, ℕ, zero, suc, ◌+◌, ◌*◌, ◌-◌, ◌%◌, ◌^◌, ◌<◌, ◌≤◌, List, [], ◌∷◌, ◌++◌, length, slice_index, get_or, take, drop, cond, Bool, refl, ap, subst, ◌∙◌, sym, inl, inr, arith}
use Rattle.std.specs.List.{All}
use Rattle.std.proofs.lemmas.Bool.{cases_lt, eq-eqb}
use Rattle.std.proofs.lemmas.List.{append-nil, take_all, drop_all, length-append, length-take-le, get_or-take, get_or_past, get_or_default}
use Rattle.std.proofs.lemmas.List.Elements.{All-from_recursion, All-append, All-take}
use Rattle.psi_residue.specs.Numbers.{plain_modulus}
use Rattle.psi_residue.specs.Polynomials.{value_at}
use Rattle.psi_residue.specs.RootPolynomials.{root_coefficient, root_value}
use Rattle.bin_poly.specs.Roots.{HasRoots, without}
use Rattle.bin_poly.proofs.Products.{root_to_front, starts-with_one, own-factor, value-of_product, without-other}
use Rattle.psi_bundle.specs.KeptPolynomials.{IsReduced, GainsRoot, LosesRoot, IsRootPolynomial, EachPart, polynomial_at}

pub each_part : (P : ℕ → Type 0) → P 0 → P 1 → P 2 → P 3 → P 4 → EachPart P
each_part P a b c d e zero lt = a
each_part P a b c d e (suc zero) lt = b
each_part P a b c d e (suc (suc zero)) lt = c
each_part P a b c d e (suc (suc (suc zero))) lt = d
each_part P a b c d e (suc (suc (suc (suc zero)))) lt = e
each_part P a b c d e (suc (suc (suc (suc (suc j))))) lt = absurd (omega arith)

-- a fact of a polynomial that was read, whatever stands past the end
pub at_part : (R : List ℕ → Type 0) (polynomials : List (List ℕ)) (j : ℕ) (d : List ℕ) → j < length polynomials → R (get_or polynomials j d) → R (polynomial_at polynomials j)
at_part R polynomials j d within h = subst R (get_or_default polynomials j d [] within) h

-- ---- lists of coefficients

-- a 0 more at the end
pub index-padded : (xs : List ℕ) (k : ℕ) → slice_index (xs ++ 0 ∷ []) k ≡ slice_index xs k
index-padded [] zero = refl
index-padded [] (suc k) = refl
index-padded (x ∷ xs) zero = refl
index-padded (x ∷ xs) (suc k) = index-padded xs k

pub HasRoots-padded : (xs roots : List ℕ) → HasRoots xs roots → HasRoots (xs ++ 0 ∷ []) roots
HasRoots-padded xs roots has k = index-padded xs k ∙ has k

-- coefficients that were written over all of a list
pub written-whole : (new old : List ℕ) (n : ℕ) → length new ≡ length old → n ≡ length old → take n (new ++ drop (length new) old) ≡ new
written-whole new old n size is =
    ap (λ (rest : List ℕ). take n (new ++ rest)) (drop_all (length new) old (omega arith))
    ∙ ap (λ (xs : List ℕ). take n xs) (append-nil new) ∙ take_all n new (omega arith)

-- a product that was made behind one more 0
pub GainsRoot-padded : (a : ℕ) → a < 2 ^ 16 → (old padded new : List ℕ) → padded ≡ old ++ 0 ∷ [] → length new ≡ length padded
    → ((roots : List ℕ) → HasRoots padded roots → HasRoots new (a ∷ roots)) → GainsRoot a old new
GainsRoot-padded a small old padded new is size product = record {
  value = small;
  longer = size ∙ ap length is ∙ omega (arith, length-append old (0 ∷ []));
  product = λ roots has. product roots (subst (λ (xs : List ℕ). HasRoots xs roots) (sym is) (HasRoots-padded old roots has));
}

pub padded-past : (xs : List ℕ) (k : ℕ) → length xs ≤ k → slice_index (xs ++ 0 ∷ []) k ≡ 0
padded-past xs k le = index-padded xs k ∙ get_or_past xs k 0 le

pub padded-below : (xs : List ℕ) → All (λ c. c < plain_modulus) xs → All (λ c. c < plain_modulus) (xs ++ 0 ∷ [])
padded-below xs below = All-append (λ c. c < plain_modulus) xs (0 ∷ []) below (All-from_recursion (λ c. c < plain_modulus) (0 ∷ []) (omega arith, tt))

-- the first n coefficients, where those behind them are 0
pub index-cut : (xs : List ℕ) (n k : ℕ) → n ≤ length xs → ((i : ℕ) → n ≤ i → slice_index xs i ≡ 0) → slice_index (take n xs) k ≡ slice_index xs k
index-cut xs n k within past =
    elim (cases_lt k n) [
      | inl lt ↦ get_or-take n xs k 0 lt
      | inr ge ↦ get_or_past (take n xs) k 0 (omega (arith, length-take-le n xs within)) ∙ sym (past k ge)
    ]

pub cut-reduced : (xs : List ℕ) (n : ℕ) → 0 < n → n ≤ length xs → All (λ c. c < plain_modulus) xs → IsReduced (take n xs)
cut-reduced xs n some within below = record {
  some = omega (arith, length-take-le n xs within);
  below = All-take (λ c. c < plain_modulus) n xs below;
}

-- ---- roots

pub one-root_polynomial : (polynomial : List ℕ) → polynomial ≡ 1 ∷ [] → IsRootPolynomial [] polynomial
one-root_polynomial polynomial is =
    subst (IsRootPolynomial []) (sym is)
    (record { values = λ k d lt. absurd (omega arith); longer = refl; product = starts-with_one (0 ∷ []) (omega arith) nothing })
  where
    nothing : (i : ℕ) → slice_index (0 ∷ []) i ≡ 0
    nothing zero = refl
    nothing (suc i) = refl

-- one root more, at the end
pub root_polynomial-more : (roots old new : List ℕ) (a : ℕ) → IsRootPolynomial roots old → GainsRoot a old new → IsRootPolynomial (roots ++ a ∷ []) new
root_polynomial-more roots old new a has gains = record {
  values = All-append (λ b. b < 2 ^ 16) roots (a ∷ []) has.values (All-from_recursion (λ b. b < 2 ^ 16) (a ∷ []) (gains.value, tt));
  longer = omega (arith, gains.longer, has.longer, length-append roots (a ∷ []));
  product = λ k.
      gains.product roots has.product k
      ∙ sym (root_to_front roots [] a k ∙ ap (λ (rest : List ℕ). root_coefficient (a ∷ rest) k) (append-nil roots));
}

pub without-first : (a b : ℕ) (roots : List ℕ) → a ≡ b → without a (b ∷ roots) ≡ roots
unfolding without
without-first a b roots same = ap (λ (t : Bool). cond t roots (b ∷ without a roots)) (eq-eqb a b same)

-- the roots are the same list, less the first a; and a is one of the roots before
pub record IsWithout (a : ℕ) (old new : List ℕ) : Type 0 where
  pub less : new ≡ without a old
  pub shorter : length new + 1 ≡ length old
  pub root : root_value old a ≡ 0

pub IsWithout-first : (a b : ℕ) (roots : List ℕ) → b < 2 ^ 16 → a ≡ b → IsWithout a (b ∷ roots) roots
IsWithout-first a b roots small same = record {
  less = sym (without-first a b roots same);
  shorter = omega arith;
  root = ap (λ (c : ℕ). (a + (65537 - c)) * root_value roots a % 65537) (sym same) ∙ own-factor a (omega (arith, same)) (root_value roots a);
}

pub IsWithout-later : (a b : ℕ) (old new : List ℕ) → (a ≡ b → ⊥) → IsWithout a old new → IsWithout a (b ∷ old) (b ∷ new)
IsWithout-later a b old new other rest = record {
  less = ap (λ (roots : List ℕ). b ∷ roots) rest.less ∙ sym (without-other a b old other);
  shorter = omega (arith, rest.shorter);
  root = ap (λ (v : ℕ). (a + (65537 - b)) * v % 65537) rest.root ∙ ap (λ (v : ℕ). v % 65537) none;
}
  where
    none : (a + (65537 - b)) * 0 ≡ 0
    none = omega arith

pub root_polynomial-less : (old_roots roots old new : List ℕ) (a : ℕ) → All (λ b. b < 2 ^ 16) roots → IsWithout a old_roots roots → IsRootPolynomial old_roots old
    → LosesRoot a old new → IsRootPolynomial roots new
root_polynomial-less old_roots roots old new a values without-a has loses = record {
  values = values;
  longer = omega (arith, loses.shorter, has.longer, without-a.shorter);
  product = λ k. loses.quotient old_roots has.values has.product k ∙ ap (λ (rs : List ℕ). root_coefficient rs k) (sym without-a.less);
}

-- at a root the value is 0
pub value-at_gone : (old_roots roots old : List ℕ) (a : ℕ) → IsWithout a old_roots roots → IsRootPolynomial old_roots old → value_at plain_modulus old a ≡ 0
value-at_gone old_roots roots old a without-a has = value-of_product old old_roots a has.product ∙ without-a.root
