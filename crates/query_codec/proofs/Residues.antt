-- The residues of ciphertexts as bytes.
use Rattle.std.proofs.Common.{◌≡◌, ℕ, ◌+◌, ◌*◌, ◌/◌, ◌%◌, ◌<◌, ◌≤◌, List, [], ◌∷◌, ◌++◌, None, Some, not, nat_lt, nat_eq, length, get_or, refl, ap, sym, subst, ◌∙◌, ◌⊎◌, inl, inr, arith, if◌then◌else◌}
use Rattle.std.specs.Option.{option_map}
use Rattle.std.proofs.lemmas.Bool.{cases_lt, lt-ltb, le-ltb}
use Rattle.std.proofs.lemmas.List.FromFn.{map-range_with_len_more}
use Rattle.psi_residue.specs.Numbers.{first_modulus, second_modulus}
use Rattle.psi_residue.specs.Polynomials.{IsPolynomial}
use Rattle.psi_residue.proofs.Sums.{length-table, slice_index-table, same_as_table}
use Rattle.psi_residue.specs.Ciphertexts.{list_modulus}
use Rattle.query_codec.specs.declared.fault.CodecFault.{CodecFault}
use Rattle.query_codec.specs.declared.fault.CodecFault.TheVariants as faults
use Rattle.query_codec.specs.Ciphertexts.{AreBelow, IsFirstWrong, IsResidueFault, residue_in, residue_modulus, list_in, ciphertext_in, ciphertexts_in, wrong_residue}
use Rattle.query_codec.proofs.Finding.{find-none, find-first}

-- the first residue that is not below its modulus
pub first_wrong : (bytes : List ℕ) (n i : ℕ) → IsFirstWrong bytes 0 n i → wrong_residue bytes n ≡ Some i
unfolding wrong_residue
first_wrong bytes n i h =
    let test = λ (k : ℕ). not (nat_lt (residue_in bytes k) (residue_modulus k)) in
    let e : 0 + i ≡ i = omega arith in
    find-first test 0 n i h.within (λ k low high. ap not (lt-ltb (residue_in bytes k) (residue_modulus k) (h.before k low (omega arith))))
    (ap test e ∙ ap not (le-ltb (residue_in bytes i) (residue_modulus i) h.wrong))
    ∙ ap (λ (k : ℕ). Some k) e

-- each residue is below its modulus
pub none_wrong : (bytes : List ℕ) (n : ℕ) → ((k : ℕ) → k < n → residue_in bytes k < residue_modulus k) → wrong_residue bytes n ≡ None
unfolding wrong_residue
none_wrong bytes n each =
    find-none (λ (k : ℕ). not (nat_lt (residue_in bytes k) (residue_modulus k))) 0 n (λ k low high. ap not (lt-ltb (residue_in bytes k) (residue_modulus k) (each k (omega arith))))

-- residues from a to b, and from there to c
pub AreBelow-joined : (bytes : List ℕ) (a b c : ℕ) → AreBelow bytes a b → AreBelow bytes b c → AreBelow bytes a c
AreBelow-joined bytes a b c front back i low high = elim (cases_lt i b) [ inl lt ↦ front i low lt | inr le ↦ back i le high ]

pub AreBelow-more : (bytes : List ℕ) (a b : ℕ) → AreBelow bytes a b → residue_in bytes b < residue_modulus b → AreBelow bytes a (b + 1)
AreBelow-more bytes a b front here i low high =
    elim (cases_lt i b) [
      | inl lt ↦ front i low lt
      | inr le ↦ let same : b ≡ i = omega arith in subst (λ (k : ℕ). residue_in bytes k < residue_modulus k) same here
    ]

pub IsFirstWrong-later : (bytes : List ℕ) (a b c d i : ℕ) → a ≤ b → c ≤ d → AreBelow bytes a b → IsFirstWrong bytes b c i → IsFirstWrong bytes a d i
IsFirstWrong-later bytes a b c d i low high front h = record {
  from = let from = h.from in omega arith;
  within = let within = h.within in omega arith;
  before = AreBelow-joined bytes a b i front h.before;
  wrong = h.wrong;
}

-- the fault of one ciphertext is that of all, where those before it have none
pub fault_within : (bytes : List ℕ) (n c : ℕ) (fault : CodecFault) → c < n → AreBelow bytes 0 (16384 * c)
    → (fault ≡ faults.NoMemory) ⊎ IsResidueFault bytes (16384 * c) (16384 * (c + 1)) fault
    → (fault ≡ faults.NoMemory) ⊎ (option_map faults.Residue (wrong_residue bytes (16384 * n)) ≡ Some fault)
fault_within bytes n c fault lt front (inl none) = inl none
fault_within bytes n c fault lt front (inr h) =
    inr (ap (λ o. option_map faults.Residue o) (first_wrong bytes (16384 * n) h.0 (IsFirstWrong-later bytes 0 (16384 * c) (16384 * (c + 1)) (16384 * n) h.0 (omega arith) (omega arith) front h.2))
    ∙ ap (λ (f : CodecFault). Some f) (sym h.1))

-- a list, residue by residue
pub list_in-from : (bytes : List ℕ) (k : ℕ) (xs : List ℕ) → length xs ≡ 4096 → ((i : ℕ) → i < 4096 → get_or xs i 0 ≡ residue_in bytes (4096 * k + i)) → xs ≡ list_in bytes k
unfolding list_in
list_in-from bytes k xs len each = same_as_table 4096 (λ i. residue_in bytes (4096 * k + i)) xs len each

-- the residues of a list have its modulus
pub modulus_of_list : (c l i : ℕ) → l < 4 → i < 4096 → residue_modulus (4096 * (4 * c + l) + i) ≡ list_modulus l
modulus_of_list c l i few lt =
    let e : (4096 * (4 * c + l) + i) / 4096 % 2 ≡ l % 2 = omega arith in
    ap (λ (u : ℕ). if nat_eq u 0 then first_modulus else second_modulus) e

-- each list is a polynomial modulo its modulus
pub list_in-polynomial : (bytes : List ℕ) (c l : ℕ) → l < 4 → AreBelow bytes (4096 * (4 * c + l)) (4096 * (4 * c + l + 1)) → IsPolynomial (list_modulus l) (list_in bytes (4 * c + l))
unfolding list_in
list_in-polynomial bytes c l few below =
    let residue = λ (i : ℕ). residue_in bytes (4096 * (4 * c + l) + i) in
    record {
      size = length-table 4096 residue;
      below = λ i lt. rw (slice_index-table 4096 residue i lt) (subst (λ (m : ℕ). residue i < m) (modulus_of_list c l i few lt) (below (4096 * (4 * c + l) + i) (omega arith) (omega arith)));
    }

-- a list that was read is a polynomial modulo its modulus
pub read-polynomial : (bytes : List ℕ) (c l k : ℕ) (xs : List ℕ) → l < 4 → k ≡ 4 * c + l → xs ≡ list_in bytes k
    → AreBelow bytes (4096 * k) (4096 * (k + 1)) → IsPolynomial (list_modulus l) xs
read-polynomial bytes c l k xs few e read below =
    subst (IsPolynomial (list_modulus l)) (sym (read ∙ ap (list_in bytes) e))
    (list_in-polynomial bytes c l few (λ i low high. below i (omega arith) (omega arith)))

-- four lists that were read are a ciphertext
pub read-lists : (bytes : List ℕ) (c : ℕ) (xs0 xs1 xs2 xs3 : List ℕ) → xs0 ≡ list_in bytes (4 * c) → xs1 ≡ list_in bytes (4 * c + 1)
    → xs2 ≡ list_in bytes (4 * c + 2) → xs3 ≡ list_in bytes (4 * c + 3) → xs0 ∷ xs1 ∷ xs2 ∷ xs3 ∷ [] ≡ ciphertext_in bytes c
unfolding ciphertext_in
read-lists bytes c xs0 xs1 xs2 xs3 e0 e1 e2 e3 =
    let e : 4 * c ≡ 4 * c + 0 = omega arith in
    (λ i. (e0 ∙ ap (list_in bytes) e) i ∷ e1 i ∷ e2 i ∷ e3 i ∷ [])

-- ciphertexts, one by one
pub ciphertexts_in-none : (bytes : List ℕ) → [] ≡ ciphertexts_in bytes 0
unfolding ciphertexts_in
ciphertexts_in-none bytes = refl

pub ciphertexts_in-more : (bytes : List ℕ) (c : ℕ) → ciphertexts_in bytes (c + 1) ≡ ciphertexts_in bytes c ++ ciphertext_in bytes c ∷ []
unfolding ciphertexts_in
ciphertexts_in-more bytes c = map-range_with_len_more (ciphertext_in bytes) 0 c c (omega arith)
