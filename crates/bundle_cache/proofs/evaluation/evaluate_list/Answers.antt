use Rattle.std.proofs.Common.{◌≡◌, ◌∙◌, ◌+◌, ◌*◌, ℕ, List, nat_lt, ap, sym, subst, arith}
use Rattle.psi_residue.specs.declared.numbers.Modulus.{Modulus}
use Rattle.psi_residue.specs.Ciphertexts.{ciphertext_at, list_at}
use Rattle.psi_residue.specs.Evaluations.{evaluated_at}
use Rattle.psi_residue.specs.Numbers.{modulus_of}
use Rattle.psi_residue.specs.Parameters.{Parameters}
use Rattle.psi_residue.specs.Polynomials.{IsPolynomial}
use Rattle.psi_residue.specs.Sums.{table}
use Rattle.negacyclic.specs.Transforms.{polynomial_of, values_of, with_products}
use Rattle.negacyclic.proofs.TransformLaws.{IsPolynomial-values_of}
use Rattle.psi_bundle.specs.Planes.{packed_plane}
use Rattle.bundle_cache.specs.Queries.{modulus_of_list, scaled_values}
use Rattle.bundle_cache.proofs.Cells.{list_modulus-at}
use Rattle.batching.proofs.Batches.{packed-polynomial}
use Rattle.bundle_cache.proofs.Values.{list-evaluated, plain-polynomial, values-end, values-more, values-start}
use Rattle.bundle_cache.proofs.evaluation.evaluate_list.Goals as goal

pub mul_acc-requires-clause-sum : goal.mul_acc-requires-clause-sum
mul_acc-requires-clause-sum c =
    let sum = subst (λ (xs : List ℕ). IsPolynomial (modulus_of (modulus_of_list c.args.list)) xs) (sym c.loop-k.invariant) (IsPolynomial-values_of (modulus_of_list c.args.list) _) in
    subst (λ (m : Modulus). IsPolynomial (modulus_of m) c.loop-k.sum) (sym c.list_modulus-m.ensures) sum

pub inverse-requires : goal.inverse-requires
inverse-requires c =
    let sum = subst (λ (xs : List ℕ). IsPolynomial (modulus_of (modulus_of_list c.args.list)) xs) (sym c.loop-k.invariant) (IsPolynomial-values_of (modulus_of_list c.args.list) _) in
    subst (λ (m : Modulus). IsPolynomial (modulus_of m) c.loop-k.sum) (sym c.list_modulus-m.ensures) sum

pub loop-k-init : goal.loop-k-init
loop-k-init c =
    let factors = packed_plane c.args.cache.now.parameters c.args.cache.now.bins c.args.plane in
    let lists = λ (k : ℕ). list_at (ciphertext_at c.args.powers.now.query (c.args.row * c.args.cache.now.parameters.capacity + k)) c.args.list in
    c.write_constant.ensures.scaled
    ∙ (λ i. scaled_values (modulus_of (c.list_modulus-m.ensures i)) (nat_lt c.args.list 2) (c.cell.ensures.values i))
    ∙ values-start (modulus_of_list c.args.list) (nat_lt c.args.list 2) factors lists

pub loop-k-preserved : goal.loop-k-preserved
loop-k-preserved c =
    let m = modulus_of_list c.args.list in
    let p = c.args.cache.now.parameters in
    let factors = packed_plane p c.args.cache.now.bins c.args.plane in
    let lists = λ (k : ℕ). list_at (ciphertext_at c.args.powers.now.query (c.args.row * p.capacity + k)) c.args.list in
    let k = c.loop-k.k in
    let power = c.list.ensures.values ∙ ap (λ (q : Parameters). values_of m (list_at (ciphertext_at c.args.powers.now.query (c.args.row * q.capacity + k)) c.args.list)) c.requires.query in
    let below = subst (λ (q : Parameters). IsPolynomial (modulus_of m) (list_at (ciphertext_at c.args.powers.now.query (c.args.row * q.capacity + k)) c.args.list)) c.requires.query c.list.ensures.polynomial in
    c.mul_acc.ensures.sums
    ∙ (λ i. with_products (modulus_of (c.list_modulus-m.ensures i)) (c.loop-k.invariant i) (c.cell-factor.ensures.values i) (power i))
    ∙ values-more m (nat_lt c.args.list 2) k factors lists (plain-polynomial m (factors (k + 1)) (packed-polynomial _)) below

pub returns-clause-evaluated : goal.returns-clause-evaluated
returns-clause-evaluated c =
    let m = modulus_of_list c.args.list in
    let p = c.args.cache.now.parameters in
    let factors = packed_plane p c.args.cache.now.bins c.args.plane in
    let cts = λ (k : ℕ). ciphertext_at c.args.powers.now.query (c.args.row * p.capacity + k) in
    let all : c.loop-k.k ≡ p.capacity = omega (arith, c.loop-k.auto.k-end, c.loop-k-test.false, c.capacity-k-end.ensures.capacity) in
    c.inverse.ensures.polynomial
    ∙ (λ i. polynomial_of (c.list_modulus-m.ensures i) (c.loop-k.invariant i))
    ∙ values-end m (nat_lt c.args.list 2) c.loop-k.k factors (λ k. list_at (cts k) c.args.list)
    ∙ ap (λ (n : ℕ). table 4096 (evaluated_at (modulus_of m) (nat_lt c.args.list 2) n factors (λ k. list_at (cts k) c.args.list))) all
    ∙ sym (list-evaluated c.args.list p.capacity factors cts c.requires.list)

pub returns-clause-reduced : goal.returns-clause-reduced
returns-clause-reduced c =
    subst (λ (q : ℕ). IsPolynomial q c.inverse.new.a) (ap modulus_of c.list_modulus-m.ensures ∙ sym (list_modulus-at c.args.list c.requires.list)) c.inverse.ensures.reduced
