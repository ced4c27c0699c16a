-- The body of a query as a header and ciphertexts.
use Rattle.std.proofs.Common.{◌≡◌, ℕ, ◌-◌, ◌*◌, ◌<◌, List, [], ◌∷◌, ◌++◌, None, Some, not, true, nat_eq, eq-eqb, if◌then◌else◌, length, take, drop, get_or, refl, ap, sym, subst, ◌∙◌, ◌⊎◌, inl, inr, arith, Result, Ok, Err, length-append, length-drop}
use Rattle.std.specs.Result.{IfOk}
use Rattle.std.specs.List.{All}
use Rattle.std.specs.Option.{option_map}
use Rattle.std.specs.Cmp.Lexicographic.{pointwise}
use Rattle.std.proofs.lemmas.List.{take_all, take-append-drop}
use Rattle.psi_residue.specs.Ciphertexts.{IsCiphertext}
use Rattle.psi_residue.specs.Parameters.{Parameters, parameter_bytes}
use Rattle.query_codec.specs.declared.fault.CodecFault.{CodecFault}
use Rattle.query_codec.specs.declared.fault.CodecFault.TheVariants as faults
use Rattle.query_codec.specs.Ciphertexts.{AreCiphertexts, residue_in, residue_modulus, ciphertexts_in, ciphertexts_bytes, wrong_residue}
use Rattle.query_codec.specs.Queries.{IsQuery, powers_of, query_body, query_fault, query_length, query_ciphertexts}
use Rattle.query_codec.proofs.Residues.{none_wrong}
use Rattle.query_codec.proofs.ReadBack.{read_back, AreCiphertexts-written}
use Rattle.item_slots.proofs.BigBytes.{bytes_from}
use Rattle.query_codec.proofs.Spellings.{spelled_ciphertexts}

pointwise-self : (xs : List ℕ) → pointwise nat_eq xs xs ≡ true
pointwise-self [] = refl
pointwise-self (x ∷ xs) = let same : nat_eq x x ≡ true = eq-eqb x x refl in rw same (pointwise-self xs)

-- equal texts pass the test
pub same-pointwise : (xs ys : List ℕ) → xs ≡ ys → pointwise nat_eq xs ys ≡ true
same-pointwise xs ys e = ap (pointwise nat_eq xs) (sym e) ∙ pointwise-self xs

-- what follows the first n elements
pub all_behind : {X : Type 0} (n : ℕ) (xs : List X) → take (length xs - n) (drop n xs) ≡ drop n xs
all_behind n xs = take_all (length xs - n) (drop n xs) (omega (arith, length-drop n xs))

-- a part of a body from a place on, as code takes it
pub behind-same : {X : Type 0} (f : List ℕ → ℕ → X) (body : List ℕ) (head head' n n' : ℕ) → head ≡ head' → n ≡ n' → f (take (length body - head) (drop head body)) n ≡ f (drop head' body) n'
behind-same f body head head' n n' head-is n-is = ap (λ (xs : List ℕ). f xs n) (all_behind head body) ∙ (λ i. f (drop (head-is i) body) (n-is i))

pub AreCiphertexts-behind : (body : List ℕ) (head head' n n' : ℕ) → head ≡ head' → n ≡ n' → AreCiphertexts (take (length body - head) (drop head body)) n → AreCiphertexts (drop head' body) n'
AreCiphertexts-behind body head head' n n' head-is n-is are =
    subst (λ (k : ℕ). AreCiphertexts (drop k body) n') head-is (subst (λ (k : ℕ). AreCiphertexts (drop head body) k) n-is (subst (λ (xs : List ℕ). AreCiphertexts xs n) (all_behind head body) are))

-- residues that are below their moduli have no fault
pub no_wrong-behind : (body : List ℕ) (head head' n n' : ℕ) → head ≡ head' → n ≡ n' → ((i : ℕ) → i < 16384 * n' → residue_in (drop head' body) i < residue_modulus i)
    → (fault : CodecFault) → (fault ≡ faults.NoMemory) ⊎ (option_map faults.Residue (wrong_residue (take (length body - head) (drop head body)) (16384 * n)) ≡ Some fault) → (fault ≡ faults.NoMemory → ⊥) → ⊥
no_wrong-behind body head head' n n' head-is n-is fit fault (inl none) other = other none
no_wrong-behind body head head' n n' head-is n-is fit fault (inr some) other =
    let none : option_map faults.Residue (wrong_residue (take (length body - head) (drop head body)) (16384 * n)) ≡ None =
    behind-same (λ (xs : List ℕ) (k : ℕ). option_map faults.Residue (wrong_residue xs (16384 * k))) body head head' n n' head-is n-is ∙ ap (λ o. option_map faults.Residue o) (none_wrong (drop head' body) (16384 * n') fit) in
    absurd cc

-- a result that has two clauses
pub IfOk-both : {X Y : Type 0} (r : Result X Y) (P Q R : X → Type 0) → ((x : X) → P x → Q x → R x) → IfOk r P → IfOk r Q → IfOk r R
IfOk-both (Ok x) P Q R f p q = f x p q
IfOk-both (Err e) P Q R f p q = tt

-- the fault of a body of the right length and header is that of its residues
pub fault_of_residues : (p : Parameters) (body : List ℕ) → length body ≡ query_length p → take 8 body ≡ parameter_bytes p
    → query_fault p body ≡ option_map faults.Residue (wrong_residue (drop 8 body) (16384 * powers_of p))
fault_of_residues p body size header =
    let sized : nat_eq (length body) (query_length p) ≡ true = eq-eqb (length body) (query_length p) size in
    let headed : pointwise nat_eq (take 8 body) (parameter_bytes p) ≡ true = same-pointwise (take 8 body) (parameter_bytes p) header in
    (λ i. if not (sized i) then Some (faults.Length (query_length p)) else (if not (headed i) then Some faults.WrongParams else option_map faults.Residue (wrong_residue (drop 8 body) (16384 * powers_of p))))

pub no_fault-IsQuery : (p : Parameters) (body : List ℕ) → IsQuery p body → query_fault p body ≡ None
no_fault-IsQuery p body q =
    fault_of_residues p body q.size q.header ∙ ap (λ o. option_map faults.Residue o) (none_wrong (drop 8 body) (16384 * powers_of p) q.fit)

-- a body is a query where its bytes behind the header are ciphertexts
pub IsQuery-from : (p : Parameters) (body : List ℕ) → length body ≡ query_length p → take 8 body ≡ parameter_bytes p → AreCiphertexts (drop 8 body) (powers_of p) → IsQuery p body
IsQuery-from p body size header are = record { size = size; header = header; fit = are.fit }

pub query_ciphertexts-is : (p : Parameters) (body : List ℕ) (n : ℕ) → n ≡ powers_of p → ciphertexts_in (take (length body - 8) (drop 8 body)) n ≡ query_ciphertexts p body
unfolding query_ciphertexts
query_ciphertexts-is p body n e = behind-same ciphertexts_in body 8 8 n (powers_of p) refl e

-- a body is spelled by its ciphertexts
pub spelled_query : (p : Parameters) (body : List ℕ) (cts : List (List (List ℕ))) → take 8 body ≡ parameter_bytes p → AreCiphertexts (drop 8 body) (powers_of p) → ((i : ℕ) → get_or body i 0 < 256)
    → cts ≡ query_ciphertexts p body → query_body p cts ≡ body
unfolding query_body query_ciphertexts
spelled_query p body cts header are each e =
    let text : ciphertexts_bytes cts ≡ drop 8 body = ap ciphertexts_bytes e ∙ spelled_ciphertexts (drop 8 body) (powers_of p) are (bytes_from 8 body each) in
    (λ i. sym header i ++ text i) ∙ take-append-drop 8 body

-- what was written is a query
pub IsQuery-written : (p : Parameters) (cts : List (List (List ℕ))) → All IsCiphertext cts → length cts ≡ powers_of p → IsQuery p (query_body p cts)
unfolding query_body
IsQuery-written p cts each number =
    let are : AreCiphertexts (ciphertexts_bytes cts) (powers_of p) = subst (λ (n : ℕ). AreCiphertexts (ciphertexts_bytes cts) n) number (AreCiphertexts-written cts each) in
    let size = are.size in
    IsQuery-from p (parameter_bytes p ++ ciphertexts_bytes cts) (omega (arith, length-append (parameter_bytes p) (ciphertexts_bytes cts), size)) refl are

-- and its ciphertexts are those that were written
pub query_read_back : (p : Parameters) (cts : List (List (List ℕ))) → All IsCiphertext cts → length cts ≡ powers_of p → query_ciphertexts p (query_body p cts) ≡ cts
unfolding query_body query_ciphertexts
query_read_back p cts each number = ap (λ (n : ℕ). ciphertexts_in (ciphertexts_bytes cts) n) (sym number) ∙ read_back cts each

-- a header and ciphertexts are a query's body
pub query_body-is : (p : Parameters) (cts : List (List (List ℕ))) → parameter_bytes p ++ ciphertexts_bytes cts ≡ query_body p cts
unfolding query_body
query_body-is p cts = refl
