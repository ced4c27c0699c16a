-- The product of (x - a) over a list of roots.
use Rattle.std.proofs.Common.{◌≡◌, ℕ, zero, suc, ◌+◌, ◌-◌, ◌*◌, ◌%◌, ◌^◌, ◌<◌, ◌≤◌, List, [], ◌∷◌, ◌++◌, length, slice_index, get_or, set, take, fold, cond, Bool, refl, ap, subst, ◌∙◌, sym, inl, inr, arith}
use Rattle.std.specs.List.{All, AllByRecursion}
use Rattle.std.proofs.lemmas.Bool.{cases_lt, cases_eq, eq-eqb, ne_eqb}
use Rattle.std.proofs.lemmas.List.{take_more, get_or-set_same, get_or-set_other, append-nil}
use Rattle.std.proofs.lemmas.Grind.{get_or_default_zero}
use Rattle.std.proofs.lemmas.List.Elements.{recursion_from_All, All-from_recursion}
use Rattle.std.proofs.Math.Nat.{mod_self, mod-eq_of_lt, mod-mod}
use Rattle.psi_residue.specs.Numbers.{plain_modulus}
use Rattle.psi_residue.specs.Polynomials.{value_at}
use Rattle.psi_residue.specs.RootPolynomials.{root_coefficient, root_value}
use Rattle.bin_poly.specs.Roots.{times_root_coefficient, HasRoots, without}
use Rattle.bin_poly.specs.Calls.{Call, times, divide, AllMake, roots_after, RootsStand}
use Rattle.psi_residue.proofs.Congruences.{product_congruent, times_congruent}
use Rattle.bin_poly.proofs.Units.{no_zero_divisor, difference-positive}
use Rattle.bin_poly.specs.Horner.{horner}
use Rattle.bin_poly.proofs.Horner.{nested-past, nested-more, horner-any_length, value_at-horner, past_end}
use Rattle.bin_poly.proofs.Factors.{product-same, product-past, product-exchange, product-value, product-decides, quotient, quotient-divides}

pub no_roots : (k : ℕ) → root_coefficient [] (k + 1) ≡ 0
unfolding root_coefficient
no_roots k = let e : k + 1 ≡ suc k = omega arith in ap (root_coefficient []) e

pub no_roots_first : root_coefficient [] 0 ≡ 1
unfolding root_coefficient
no_roots_first = refl

-- one root more
pub one_root_more : (a : ℕ) (roots : List ℕ) (k : ℕ) → root_coefficient (a ∷ roots) k ≡ times_root_coefficient a (root_coefficient roots) k
unfolding root_coefficient times_root_coefficient
one_root_more a roots zero = refl
one_root_more a roots (suc k) = refl

pub coefficient-below : (roots : List ℕ) (k : ℕ) → root_coefficient roots k < 65537
unfolding root_coefficient
coefficient-below [] zero = omega arith
coefficient-below [] (suc k) = omega arith
coefficient-below (a ∷ roots) zero = omega arith
coefficient-below (a ∷ roots) (suc k) = omega arith

-- above the number of roots all coefficients are 0
pub coefficient-past : (roots : List ℕ) (k : ℕ) → length roots < k → root_coefficient roots k ≡ 0
coefficient-past [] zero lt = absurd (omega arith)
coefficient-past [] (suc k) lt = let e : suc k ≡ k + 1 = omega arith in ap (root_coefficient []) e ∙ no_roots k
coefficient-past (a ∷ roots) k lt =
    one_root_more a roots k ∙ product-past a (root_coefficient roots) (length roots + 1) k (λ i low. coefficient-past roots i (omega arith)) (omega arith)

-- the first two roots in either order
pub first_two : (a b : ℕ) (roots : List ℕ) (k : ℕ) → root_coefficient (a ∷ b ∷ roots) k ≡ root_coefficient (b ∷ a ∷ roots) k
first_two a b roots k =
    one_root_more a (b ∷ roots) k
    ∙ product-same a (root_coefficient (b ∷ roots)) (times_root_coefficient b (root_coefficient roots)) k (one_root_more b roots)
    ∙ product-exchange a b (root_coefficient roots) k
    ∙ sym (product-same b (root_coefficient (a ∷ roots)) (times_root_coefficient a (root_coefficient roots)) k (one_root_more a roots))
    ∙ sym (one_root_more b (a ∷ roots) k)

-- one more root on lists with equal coefficients
pub same_more : (a : ℕ) (xs ys : List ℕ) → ((k : ℕ) → root_coefficient xs k ≡ root_coefficient ys k) → (k : ℕ) → root_coefficient (a ∷ xs) k ≡ root_coefficient (a ∷ ys) k
same_more a xs ys same k =
    one_root_more a xs k ∙ product-same a (root_coefficient xs) (root_coefficient ys) k same ∙ sym (one_root_more a ys k)

-- a root within the list can stand first
pub root_to_front : (front back : List ℕ) (a k : ℕ) → root_coefficient (front ++ a ∷ back) k ≡ root_coefficient (a ∷ front ++ back) k
root_to_front [] back a k = refl
root_to_front (b ∷ front) back a k =
    same_more b (front ++ a ∷ back) (a ∷ front ++ back) (root_to_front front back a) k ∙ first_two b a (front ++ back) k

-- the value of the product is the product of the values
pub horner-product : (roots : List ℕ) (x n : ℕ) → length roots < n → horner (root_coefficient roots) x n 0 % 65537 ≡ root_value roots x
horner-product roots x zero lt = absurd (omega arith)
horner-product [] x (suc n) lt =
    let shape : suc n ≡ n + 1 = omega arith in
    let rest = nested-past (root_coefficient []) (λ i. x) n (0 + 1) (λ i low. coefficient-past [] i (omega arith)) in
    ap (λ (m : ℕ). horner (root_coefficient []) x m 0 % 65537) shape
    ∙ ap (λ (u : ℕ). u % 65537) (nested-more (root_coefficient []) (λ i. x) n 0 ∙ ap (λ (u : ℕ). u + x * horner (root_coefficient []) x n (0 + 1)) no_roots_first ∙ ap (λ (u : ℕ). 1 + x * u) rest ∙ one)
  where
    one : 1 + x * 0 ≡ 1
    one = omega arith
horner-product (a ∷ roots) x (suc n) lt =
    let shape : suc n ≡ n + 1 = omega arith in
    let before = horner-product roots x n (omega arith) in
    ap (λ (m : ℕ). horner (root_coefficient (a ∷ roots)) x m 0 % 65537) shape
    ∙ ap (λ (f : ℕ → ℕ). horner f x (n + 1) 0 % 65537) (λ i k. one_root_more a roots k i)
    ∙ product-value a (root_coefficient roots) x n (λ i low. coefficient-past roots i (omega arith))
    ∙ sym (times_congruent 65537 (x + (65537 - a)) (root_value roots x) (horner (root_coefficient roots) x n 0) (ap (λ (u : ℕ). u % 65537) (sym before) ∙ mod-mod (horner (root_coefficient roots) x n 0) 65537))

-- a list that is the product takes its values
pub value-of_product : (polynomial roots : List ℕ) (x : ℕ) → HasRoots polynomial roots → value_at plain_modulus polynomial x ≡ root_value roots x
value-of_product polynomial roots x has =
    value_at-horner 65537 polynomial x
    ∙ ap (λ (f : ℕ → ℕ). horner f x (length polynomial) 0 % 65537) (λ i k. has k i)
    ∙ ap (λ (u : ℕ). u % 65537) (horner-any_length (root_coefficient roots) x (length polynomial) (length roots + 1)
    (λ i low. sym (has i) ∙ past_end polynomial i low) (λ i low. coefficient-past roots i (omega arith)))
    ∙ horner-product roots x (length roots + 1) (omega arith)

pub root_value-below : (roots : List ℕ) (x : ℕ) → root_value roots x < 65537
root_value-below [] x = omega arith
root_value-below (a ∷ roots) x = omega arith

-- a root's own factor is 0
pub own-factor : (a : ℕ) → a < 65537 → (v : ℕ) → (a + (65537 - a)) * v % 65537 ≡ 0
own-factor a small v =
    let whole : a + (65537 - a) ≡ 65537 = omega arith in
    let none : 0 * v ≡ 0 = omega arith in
    product_congruent 65537 (a + (65537 - a)) 0 v v (ap (λ (u : ℕ). u % 65537) whole ∙ mod_self 65537) refl ∙ ap (λ (u : ℕ). u % 65537) none

-- the product is 0 at a root
pub root_value-at_root : (roots : List ℕ) (i : ℕ) → AllByRecursion (λ a. a < 65537) roots → i < length roots → root_value roots (get_or roots i 0) ≡ 0
root_value-at_root [] i small lt = absurd (omega arith)
root_value-at_root (a ∷ roots) zero small lt = own-factor a small.0 (root_value roots a)
root_value-at_root (a ∷ roots) (suc i) small lt =
    let x : ℕ = get_or roots i 0 in
    let none : (x + (65537 - a)) * 0 ≡ 0 = omega arith in
    ap (λ (u : ℕ). (x + (65537 - a)) * u % 65537) (root_value-at_root roots i small.1 (omega arith)) ∙ ap (λ (u : ℕ). u % 65537) none

-- and so is the value of a list that is the product
pub value-at_root : (polynomial roots : List ℕ) (i : ℕ) → All (λ a. a < 65537) roots → HasRoots polynomial roots → i < length roots
    → value_at plain_modulus polynomial (slice_index roots i) ≡ 0
value-at_root polynomial roots i small has within =
    value-of_product polynomial roots (slice_index roots i) has ∙ root_value-at_root roots i (recursion_from_All (λ a. a < 65537) roots small) within

without-first : (a : ℕ) (roots : List ℕ) → without a (a ∷ roots) ≡ roots
unfolding without
without-first a roots = ap (λ (b : Bool). cond b roots (a ∷ without a roots)) (eq-eqb a a refl)

pub without-other : (a b : ℕ) (roots : List ℕ) → (a ≡ b → ⊥) → without a (b ∷ roots) ≡ b ∷ without a roots
unfolding without
without-other a b roots other = ap (λ (c : Bool). cond c roots (b ∷ without a roots)) (ne_eqb a b other)

-- a number at which the value is 0 is one of the roots, and can stand first
root_found : (x : ℕ) → x < 65537 → (roots : List ℕ) → AllByRecursion (λ a. a < 2 ^ 16) roots → root_value roots x ≡ 0
    → (k : ℕ) → root_coefficient roots k ≡ root_coefficient (x ∷ without x roots) k
root_found x small [] below none k = absurd (omega (arith, none))
root_found x small (a ∷ roots) below none k =
    elim (cases_eq x a) [
      | inl same ↦
          ap (λ (b : ℕ). root_coefficient (b ∷ roots) k) (sym same)
          ∙ sym (ap (λ (rest : List ℕ). root_coefficient (x ∷ rest) k) (ap (λ (b : ℕ). without x (b ∷ roots)) (sym same) ∙ without-first x roots))
      | inr other ↦
          let positive = difference-positive x a small (omega (arith, below.0)) other in
          let rest = no_zero_divisor (x + (65537 - a)) (root_value roots x) none positive in
          let rest_none : root_value roots x ≡ 0 = sym (mod-eq_of_lt (root_value-below roots x)) ∙ rest in
          same_more a roots (x ∷ without x roots) (root_found x small roots below.1 rest_none) k
          ∙ first_two a x (without x roots) k
          ∙ sym (ap (λ (rest : List ℕ). root_coefficient (x ∷ rest) k) (without-other x a roots other))
    ]

without-keeps : (P : ℕ → Type 0) (a : ℕ) (roots : List ℕ) → AllByRecursion P roots → AllByRecursion P (without a roots)
unfolding without
without-keeps P a [] all = all
without-keeps P a (b ∷ roots) all =
    elim (cases_eq a b) [
      | inl same ↦ subst (AllByRecursion P) (sym (ap (λ (c : ℕ). without c (b ∷ roots)) same ∙ without-first b roots)) all.1
      | inr other ↦ subst (AllByRecursion P) (sym (without-other a b roots other)) (all.0, without-keeps P a roots all.1)
    ]

-- a coefficient of a list whose elements are below the modulus
pub coefficient_below : (xs : List ℕ) → All (λ c. c < 65537) xs → (i : ℕ) → slice_index xs i < 65537
coefficient_below xs all i =
    elim (cases_lt i (length xs)) [
      | inl lt ↦ all i 0 lt
      | inr ge ↦ omega (arith, past_end xs i ge)
    ]

-- lists with one product with (x - a) are one polynomial
pub lists-decided : (a : ℕ) (xs ys : List ℕ) → All (λ c. c < 65537) xs → All (λ c. c < 65537) ys
    → ((i : ℕ) → times_root_coefficient a (slice_index xs) i ≡ times_root_coefficient a (slice_index ys) i) → (k : ℕ) → slice_index xs k ≡ slice_index ys k
lists-decided a xs ys xs-below ys-below same k =
    product-decides a (slice_index xs) (slice_index ys) (length xs + length ys) (λ i low. past_end xs i (omega arith)) (λ i low. past_end ys i (omega arith))
    (coefficient_below xs xs-below) (coefficient_below ys ys-below) same k

-- multiplying in a root
pub root-multiplied : (a : ℕ) (roots old new : List ℕ) → HasRoots old roots
    → ((k : ℕ) → slice_index new k ≡ times_root_coefficient a (slice_index old) k) → HasRoots new (a ∷ roots)
root-multiplied a roots old new has product k =
    product k ∙ product-same a (slice_index old) (root_coefficient roots) k has ∙ sym (one_root_more a roots k)

-- dividing out a root
pub root-divided : (a : ℕ) → a < 65537 → (roots old new : List ℕ) → All (λ b. b < 2 ^ 16) roots → HasRoots old roots
    → value_at plain_modulus old a ≡ 0 → All (λ c. c < plain_modulus) new
    → ((k : ℕ) → times_root_coefficient a (slice_index new) k ≡ slice_index old k) → HasRoots new (without a roots)
root-divided a small roots old new roots-below has root new-below product k =
    let rest = without a roots in
    let none : root_value roots a ≡ 0 = sym (value-of_product old roots a has) ∙ root in
    let found = root_found a small roots (recursion_from_All (λ b. b < 2 ^ 16) roots roots-below) none in
    product-decides a (slice_index new) (root_coefficient rest) (length new + length rest + 1)
    (λ i low. past_end new i (omega arith)) (λ i low. coefficient-past rest i (omega arith))
    (coefficient_below new new-below) (coefficient-below rest)
    (λ i. product i ∙ has i ∙ found i ∙ one_root_more a rest i) k

-- any calls
stand-by_recursion : (calls : List Call) (roots old new : List ℕ) → AllByRecursion (λ a. a < 2 ^ 16) roots → HasRoots old roots
    → AllMake calls old new → HasRoots new (fold roots_after roots calls)
stand-by_recursion [] roots old new below has make = λ k. make k ∙ has k
stand-by_recursion (times a ∷ calls) roots old new below has make =
    stand-by_recursion calls (a ∷ roots) make.0 new (make.1.0, below) (root-multiplied a roots old make.0 has make.1.1) make.2
stand-by_recursion (divide a ∷ calls) roots old new below has make =
    stand-by_recursion calls (without a roots) make.0 new (without-keeps (λ b. b < 2 ^ 16) a roots below)
    (root-divided a (omega (arith, make.1.0)) roots old make.0 (All-from_recursion (λ b. b < 2 ^ 16) roots below) has make.1.1 make.1.2 make.1.3) make.2

pub all_stand : RootsStand
all_stand calls roots old new below = stand-by_recursion calls roots old new (recursion_from_All (λ a. a < 2 ^ 16) roots below)

-- the number of a list's coefficients does not matter for its roots
pub root-of_list : (f : List ℕ) (a n : ℕ) → ((i : ℕ) → n ≤ i → slice_index f i ≡ 0) → value_at 65537 f a ≡ 0 → horner (slice_index f) a n 0 % 65537 ≡ 0
root-of_list f a n past root =
    ap (λ (u : ℕ). u % 65537) (horner-any_length (slice_index f) a n (length f) past (past_end f)) ∙ sym (value_at-horner 65537 f a) ∙ root

-- what synthetic division leaves
pub division-whole : (a : ℕ) → a ≤ 65537 → (old new : List ℕ) (n : ℕ) → ((i : ℕ) → n ≤ i → slice_index old i ≡ 0) → All (λ c. c < 65537) old
    → value_at 65537 old a ≡ 0 → ((i : ℕ) → slice_index new i ≡ quotient a (slice_index old) n i)
    → (k : ℕ) → times_root_coefficient a (slice_index new) k ≡ slice_index old k
division-whole a small old new n past below root is k =
    product-same a (slice_index new) (quotient a (slice_index old) n) k is
    ∙ quotient-divides a small (slice_index old) n past (root-of_list old a n past root) k
    ∙ mod-eq_of_lt (coefficient_below old below k)

-- a fact of each place is one of each element
pub all_below : (xs : List ℕ) → ((i : ℕ) → slice_index xs i < 65537) → All (λ c. c < 65537) xs
all_below xs each k d lt = subst (λ (u : ℕ). u < 65537) (sym (get_or_default_zero xs k d lt)) (each k)

-- the value at the end of Horner's rule
pub value-done : (coefficients : List ℕ) (x k v : ℕ) → k ≤ 0 → v ≡ horner (slice_index coefficients) x (length coefficients - k) k % 65537
    → v ≡ value_at 65537 coefficients x
value-done coefficients x k v end is =
    let none : k ≡ 0 = omega arith in
    let all : length coefficients - 0 ≡ length coefficients = omega arith in
    is
    ∙ ap (λ (j : ℕ). horner (slice_index coefficients) x (length coefficients - j) j % 65537) none
    ∙ ap (λ (m : ℕ). horner (slice_index coefficients) x m 0 % 65537) all
    ∙ sym (value_at-horner 65537 coefficients x)

-- the first roots with one more
pub roots_more : (roots : List ℕ) (i k : ℕ) → i < length roots → root_coefficient (get_or roots i 0 ∷ take i roots) k ≡ root_coefficient (take (i + 1) roots) k
roots_more roots i k within =
    let a : ℕ = get_or roots i 0 in
    ap (λ (rest : List ℕ). root_coefficient (a ∷ rest) k) (sym (append-nil (take i roots)))
    ∙ sym (root_to_front (take i roots) [] a k)
    ∙ ap (λ (xs : List ℕ). root_coefficient xs k) (sym (take_more roots i 0 within))

-- the polynomial 1, of which the first coefficient alone is not 0
pub starts-with_one : (xs : List ℕ) → 0 < length xs → ((i : ℕ) → slice_index xs i ≡ 0) → HasRoots (set xs 0 1) []
starts-with_one xs some none zero = get_or-set_same xs 0 1 0 some ∙ sym no_roots_first
starts-with_one xs some none (suc k) =
    let shape : suc k ≡ k + 1 = omega arith in
    get_or-set_other xs 0 (suc k) 1 0 (λ same. absurd (omega (arith, same))) ∙ none (suc k) ∙ sym (ap (root_coefficient []) shape ∙ no_roots k)

-- a list of zeros is 0 past its end too
pub all_zero : (xs : List ℕ) (n : ℕ) → length xs ≡ n → ((k : ℕ) → k < n → slice_index xs k ≡ 0) → (i : ℕ) → slice_index xs i ≡ 0
all_zero xs n size each i =
    elim (cases_lt i n) [
      | inl lt ↦ each i lt
      | inr ge ↦ past_end xs i (omega arith)
    ]

pub all_below-product : (xs roots : List ℕ) → HasRoots xs roots → All (λ c. c < 65537) xs
all_below-product xs roots has = all_below xs (λ i. subst (λ (u : ℕ). u < 65537) (sym (has i)) (coefficient-below roots i))
