-- What the evaluation of a bundle's plane at a query's powers opens to.
use Rattle.std.proofs.Common.{◌≡◌, ℕ, suc, ◌+◌, ◌*◌, ◌%◌, ◌^◌, ◌<◌, ◌≤◌, List, [], ap, subst, ◌∙◌, sym, arith}
use Rattle.std.proofs.lemmas.List.FromFn.{get_or-map-range_with_len}
use Rattle.std.proofs.lemmas.Nat.{div-mul-add, mod-mul-add, mul-le}
use Rattle.psi_residue.specs.Ciphertexts.{IsCiphertext, ciphertext_at}
use Rattle.psi_residue.specs.Numbers.{plain_modulus}
use Rattle.psi_residue.specs.Parameters.{Parameters}
use Rattle.psi_residue.specs.Slots.{slot_of, packed_list}
use Rattle.psi_residue.specs.Sums.{sum_below}
use Rattle.psi_residue.proofs.Sums.{sum_below-same}
use Rattle.batching.proofs.Batches.{IsPolynomial-packed_list}
use Rattle.bin_poly.specs.Horner.{horner}
use Rattle.noise_ledger.specs.Verdicts.{ArePassed}
use Rattle.bfv_core.specs.Encryptions.{Carries, opening}
use Rattle.bfv_core.specs.EncryptedLists.{key_of_seed, encrypted}
use Rattle.bfv_core.specs.Evaluations.{IsEvaluable}
use Rattle.bfv_core.proofs.LedgerTheorem.{evaluation-opens, evaluation-slots}
use Rattle.psi_bundle.specs.declared.member.Member.{Member}
use Rattle.psi_bundle.specs.Bins.{bin_at}
use Rattle.psi_bundle.specs.Bodies.{evaluated_plane}
use Rattle.psi_bundle.specs.Planes.{part_coefficient, slot_coefficient, packed_plane}
use Rattle.psi_receiver.specs.declared.placement.Placed.{Placed}
use Rattle.psi_receiver.specs.Queries.{bin_value, query_ciphertext, encrypted_powers, powers_of, row_values}
use Rattle.psi_receiver.proofs.Encryptions.{key-ternary, encrypted-ciphertext, encrypted-carries}
use Rattle.psi_receiver.proofs.RootValues.{values-evaluated}
use Rattle.batching.proofs.Batches.{packed-polynomial}
use Rattle.psi_receiver.proofs.SlotValues.{plane-slot, query-slot}

-- the ciphertexts of a row, by their powers less 1, and what they carry
abbrev row_ciphertext : Parameters → (seed : List ℕ) → List Placed → (row k : ℕ) → List (List ℕ)
row_ciphertext p seed placed row k = ciphertext_at (encrypted_powers p seed placed) (row * p.capacity + k)

abbrev row_plaintext : List Placed → (row k : ℕ) → List ℕ
row_plaintext placed row k = packed_list (powers_of (row_values placed row) (k + 1))

number-within : (row k rows capacity : ℕ) → row < rows → k < capacity → row * capacity + k < rows * capacity
number-within row k rows capacity lt below =
    let whole : (row + 1) * capacity ≤ rows * capacity = mul-le (row + 1) capacity rows capacity (omega arith) (omega arith) in
    omega (arith, whole)

row_ciphertext-is : (p : Parameters) (seed : List ℕ) (placed : List Placed) (row k : ℕ) → row < p.rows → k < p.capacity
    → row_ciphertext p seed placed row k ≡ encrypted seed (row * p.capacity + k) (row_plaintext placed row k)
unfolding encrypted_powers query_ciphertext
row_ciphertext-is p seed placed row k lt below =
    get_or-map-range_with_len (query_ciphertext p.capacity seed placed) 0 (p.rows * p.capacity) (row * p.capacity + k) (row * p.capacity + k) [] (number-within row k p.rows p.capacity lt below) (omega arith)
    ∙ ap (λ (r : ℕ). encrypted seed (row * p.capacity + k) (packed_list (powers_of (row_values placed r) ((row * p.capacity + k) % p.capacity + 1)))) (div-mul-add row p.capacity k below)
    ∙ ap (λ (e : ℕ). encrypted seed (row * p.capacity + k) (packed_list (powers_of (row_values placed row) (e + 1)))) (mod-mul-add row p.capacity k below)

query-evaluable : (p : Parameters) (seed : List ℕ) (placed : List Placed) (row plane : ℕ) (bins : List (List Member)) → ArePassed p → row < p.rows
    → IsEvaluable p (key_of_seed seed) (row_ciphertext p seed placed row) (row_plaintext placed row) (packed_plane p bins plane)
query-evaluable p seed placed row plane bins passed lt = record {
  passed = passed;
  ternary = key-ternary seed;
  encrypted = λ k below. subst (λ (ct : List (List ℕ)). IsCiphertext ct) (sym (row_ciphertext-is p seed placed row k lt below)) (encrypted-ciphertext seed (row * p.capacity + k) (row_plaintext placed row k));
  plain = λ k below. IsPolynomial-packed_list (powers_of (row_values placed row) (k + 1));
  carried = λ k below. subst (λ (ct : List (List ℕ)). Carries 21 (key_of_seed seed) ct (row_plaintext placed row k)) (sym (row_ciphertext-is p seed placed row k lt below)) (encrypted-carries seed (row * p.capacity + k) (row_plaintext placed row k));
  polynomials = λ k le. packed-polynomial (λ slot. slot_coefficient p bins plane slot k);
}

-- slot 5·b + j of an opened plane is the value of the polynomial of part j of bin b, at the query's value there
pub plane-value : (p : Parameters) (seed : List ℕ) (placed : List Placed) (row plane : ℕ) (bins : List (List Member)) (b j : ℕ)
    → ArePassed p → row < p.rows → b < 819 → j < 5
    → slot_of (opening (key_of_seed seed) (evaluated_plane p (encrypted_powers p seed placed) row bins plane)) (5 * b + j)
    ≡ horner (part_coefficient p (bin_at bins b) plane j) (bin_value placed (819 * row + b) j) (suc p.capacity) 0 % plain_modulus
plane-value p seed placed row plane bins b j passed lt within part =
    let h = query-evaluable p seed placed row plane bins passed lt in
    ap (λ (plain : List ℕ). slot_of plain (5 * b + j)) (evaluation-opens p (key_of_seed seed) (row_ciphertext p seed placed row) (row_plaintext placed row) (packed_plane p bins plane) h)
    ∙ evaluation-slots p.capacity (packed_plane p bins plane) (row_plaintext placed row)
    (λ k below. (h.polynomials (k + 1) (omega arith)).size) (λ k below. (h.plain k below).size) (5 * b + j)
    ∙ ap (λ (u : ℕ). u % plain_modulus) (λ i. products i + plane-slot p bins plane b j 0 within part i)
    ∙ values-evaluated (part_coefficient p (bin_at bins b) plane j) (bin_value placed (819 * row + b) j) p.capacity
  where
    products : sum_below p.capacity (λ k. slot_of (packed_plane p bins plane (k + 1)) (5 * b + j) * slot_of (row_plaintext placed row k) (5 * b + j))
        ≡ sum_below p.capacity (λ k. part_coefficient p (bin_at bins b) plane j (k + 1) * (bin_value placed (819 * row + b) j ^ (k + 1) % plain_modulus))
    products =
        sum_below-same p.capacity (λ k. slot_of (packed_plane p bins plane (k + 1)) (5 * b + j) * slot_of (row_plaintext placed row k) (5 * b + j))
        (λ k. part_coefficient p (bin_at bins b) plane j (k + 1) * (bin_value placed (819 * row + b) j ^ (k + 1) % plain_modulus))
        (λ k below. λ i. plane-slot p bins plane b j (k + 1) within part i * query-slot placed row (k + 1) b j within part i)
