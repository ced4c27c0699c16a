-- A number near Δ·m, by less than half of what the scale leaves, opens to m. Numbers are taken twice and modulo 2q, where halves are whole.
use Rattle.std.proofs.Common.{◌≡◌, ℕ, ◌+◌, ◌-◌, ◌*◌, ◌/◌, ◌%◌, ◌<◌, ◌≤◌, ap, ◌∙◌, sym, arith}
use Rattle.std.proofs.lemmas.Nat.{mul-le, div-mul-add}
use Rattle.std.proofs.Math.Nat.{add-mul-div_left, mod-eq_of_lt}
use Rattle.bfv_core.specs.Encryptions.{IsNear}
use Rattle.psi_residue.proofs.Congruences.{mod-witness, mod-from_witness}

-- near numbers modulo q are near, taken twice, modulo 2q
pub near-twice : (q bound x y : ℕ) → IsNear q bound x y → IsNear (2 * q) (2 * bound) (2 * x) (2 * y)
near-twice q bound x y h = record {
  more = 2 * h.more;
  less = 2 * h.less;
  small = let s = h.small in omega (arith, s);
  near = by_witness ((x + h.less) / q) ((y + h.more) / q) (mod-witness q (x + h.less) (y + h.more) h.near);
}
  where
    by_witness : (u v : ℕ) → x + h.less + q * v ≡ y + h.more + q * u → (2 * x + 2 * h.less) % (2 * q) ≡ (2 * y + 2 * h.more) % (2 * q)
    by_witness u v e =
        let whole : 2 * (x + h.less + q * v) ≡ 2 * (y + h.more + q * u) = ap (λ (w : ℕ). 2 * w) e in
        mod-from_witness (2 * q) (2 * x + 2 * h.less) (2 * y + 2 * h.more) v u (omega (arith, whole))

-- The numerator t·x + q, where x is near 2·Δ·m modulo 2q, is m whole times and less than once 2·q, but for multiples of t.
numerator : (q t delta r x m more less u v : ℕ) → q ≡ delta * t + r → t * less + 2 * (r * m) ≤ q → x + less + 2 * q * u ≡ 2 * (delta * m) + more + 2 * q * v
    → t * x + q + 2 * q * (t * u) ≡ (m + t * v) * (2 * q) + (t * more + (q - (t * less + 2 * (r * m))))
numerator q t delta r x m more less u v parts small e = by_rest (q - (t * less + 2 * (r * m))) (omega arith)
  where
    by_rest : (d : ℕ) → t * less + 2 * (r * m) + d ≡ q → t * x + q + 2 * q * (t * u) ≡ (m + t * v) * (2 * q) + (t * more + d)
    by_rest d rest =
        let whole : t * (x + less + 2 * q * u) ≡ t * (2 * (delta * m) + more + 2 * q * v) = ap (λ (w : ℕ). t * w) e in
        let scaled : 2 * m * q ≡ 2 * m * (delta * t + r) = ap (λ (w : ℕ). 2 * m * w) parts in
        omega arith

-- A number near 2·Δ·m, by less than what the scale leaves, opens to m.
pub opened-near_twice : (q t delta r g bound x m : ℕ) → 0 < q → q ≡ delta * t + r → m < t → m ≤ g → t * bound + 2 * (r * g) < q
    → IsNear (2 * q) bound x (2 * (delta * m)) → (t * x + q) / (2 * q) % t ≡ m
opened-near_twice q t delta r g bound x m positive parts below le fits h =
    by_witness ((2 * (delta * m) + h.more) / (2 * q)) ((x + h.less) / (2 * q)) (mod-witness (2 * q) (x + h.less) (2 * (delta * m) + h.more) h.near)
  where
    more_le : t * h.more ≤ t * bound
    more_le = let s = h.small in mul-le t h.more t bound (omega arith) (omega arith)

    less_le : t * h.less ≤ t * bound
    less_le = let s = h.small in mul-le t h.less t bound (omega arith) (omega arith)

    rest_le : r * m ≤ r * g
    rest_le = mul-le r m r g (omega arith) le

    by_witness : (u v : ℕ) → x + h.less + 2 * q * u ≡ 2 * (delta * m) + h.more + 2 * q * v → (t * x + q) / (2 * q) % t ≡ m
    by_witness u v e =
        let high = more_le in
        let low = less_le in
        let rest = rest_le in
        let small : t * h.less + 2 * (r * m) ≤ q = omega arith in
        let within : t * h.more + (q - (t * h.less + 2 * (r * m))) < 2 * q = omega arith in
        let whole : (t * x + q) / (2 * q) + t * u ≡ m + t * v =
        sym (add-mul-div_left (t * x + q) (t * u) (omega arith))
        ∙ ap (λ (w : ℕ). w / (2 * q)) (numerator q t delta r x m h.more h.less u v parts small e)
        ∙ div-mul-add (m + t * v) (2 * q) (t * h.more + (q - (t * h.less + 2 * (r * m)))) within in
        mod-from_witness t ((t * x + q) / (2 * q)) m u v whole ∙ mod-eq_of_lt below

-- the same of a number that is not taken twice
pub opened-near : (q t delta r g bound x m : ℕ) → 0 < q → q ≡ delta * t + r → m < t → m ≤ g → 2 * (t * bound + r * g) < q → IsNear q bound x (delta * m)
    → (2 * t * x + q) / (2 * q) % t ≡ m
opened-near q t delta r g bound x m positive parts below le fits h =
    let same : 2 * t * x ≡ t * (2 * x) = omega arith in
    let twice : t * (2 * bound) + 2 * (r * g) < q = omega (arith, fits) in
    ap (λ (u : ℕ). (u + q) / (2 * q) % t) same
    ∙ opened-near_twice q t delta r g (2 * bound) (2 * x) m positive parts below le twice (near-twice q bound x (delta * m) h)
