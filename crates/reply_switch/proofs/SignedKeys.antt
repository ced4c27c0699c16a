-- A key as what it has above 0 less what it has below: with c = -1 its residues are the one and c times the other. Products with it keep
-- numbers near.
use Rattle.std.proofs.Common.{◌≡◌, ℕ, suc, ◌+◌, ◌-◌, ◌*◌, ◌/◌, ◌%◌, ◌<◌, ◌≤◌, List, length, get_or, refl, ap, ◌∙◌, sym, subst, arith, ℤ, pos, negsuc, unsigned_abs}
use Rattle.std.proofs.Math.Nat.{mod-mod, mod-add-mod, mod-lt, mod-add-div, add-mul-mod_self_left, zero-mod}
use Rattle.std.proofs.lemmas.List.{get_or_past, get_or-map}
use Rattle.std.proofs.lemmas.List.Elements.{All-get_or}
use Rattle.psi_residue.specs.Sums.{sum_below}
use Rattle.psi_residue.specs.Residues.{residue_of, residues_of}
use Rattle.psi_residue.proofs.Sums.{sum_below-same, sum_below-add, sum_below-times}
use Rattle.psi_residue.proofs.Congruences.{sum_congruent, times_congruent, cancel_term, minus_one-times}
use Rattle.negacyclic.proofs.Ring.{ring, turned, spread, spread-ring, spread-comm, spread-plus}
use Rattle.bfv_core.specs.Encryptions.{IsKey}
use Rattle.bfv_core.proofs.LedgerErrors.{near-product, error-bound}

-- ---- a key

abbrev pub up_of : ℤ → ℕ
up_of (pos n) = n
up_of (negsuc n) = 0

abbrev pub down_of : ℤ → ℕ
down_of (pos n) = 0
down_of (negsuc n) = suc n

abbrev pub up_at : List ℤ → ℕ → ℕ
up_at key i = up_of (get_or key i (pos 0))

abbrev pub down_at : List ℤ → ℕ → ℕ
down_at key i = down_of (get_or key i (pos 0))

-- up less down, where c is -1
abbrev pub signed : (c : ℕ) → (up down : ℕ → ℕ) → ℕ → ℕ
signed c up down i = up i + c * down i

-- what a number less its residue leaves
negated : (m d : ℕ) → 0 < m → ((m - d % m) % m + d) % m ≡ 0
negated m d positive =
    let below = mod-lt d positive in
    let whole = mod-add-div d m in
    let e : m - d % m + d ≡ 0 + m * (1 + d / m) = omega (arith, whole, below) in
    mod-add-mod (m - d % m) m d ∙ ap (λ (u : ℕ). u % m) e ∙ add-mul-mod_self_left 0 m (1 + d / m) ∙ zero-mod m

pub residue-signed : (m c : ℕ) (s : ℤ) → 0 < m → (c + 1) % m ≡ 0 → residue_of m s % m ≡ (up_of s + c * down_of s) % m
residue-signed m c (pos n) positive e =
    let none : n ≡ n + c * 0 = omega arith in
    mod-mod n m ∙ ap (λ (u : ℕ). u % m) none
residue-signed m c (negsuc n) positive e =
    cancel_term m ((m - suc n % m) % m) (0 + c * suc n) (suc n) positive
    (negated m (suc n) positive ∙ sym (minus_one-times m c (suc n) 0 e ∙ zero-mod m))

pub residues-signed : (m c : ℕ) (key : List ℤ) → 0 < m → (c + 1) % m ≡ 0 → length key ≡ 4096 → (i : ℕ) → i ≤ 4095
    → get_or (residues_of m key) i 0 % m ≡ signed c (up_at key) (down_at key) i % m
residues-signed m c key positive e len i le =
    ap (λ (u : ℕ). u % m) (get_or-map (residue_of m) key i (pos 0) 0 (omega (arith, len))) ∙ residue-signed m c (get_or key i (pos 0)) positive e

pub up-past : (key : List ℤ) → length key ≡ 4096 → (i : ℕ) → 4095 < i → up_at key i ≡ 0
up-past key len i lt = ap up_of (get_or_past key i (pos 0) (omega (arith, len)))

pub down-past : (key : List ℤ) → length key ≡ 4096 → (i : ℕ) → 4095 < i → down_at key i ≡ 0
down-past key len i lt = ap down_of (get_or_past key i (pos 0) (omega (arith, len)))

both-size : (s : ℤ) → up_of s + down_of s ≡ unsigned_abs s
both-size (pos n) = let e : n + 0 ≡ n = omega arith in e
both-size (negsuc n) = let e : 0 + suc n ≡ suc n = omega arith in e

pub both-small : (key : List ℤ) → IsKey key → (i : ℕ) → i ≤ 4095 → up_at key i + down_at key i ≤ 1
both-small key h i le =
    subst (λ (u : ℕ). u ≤ 1) (sym (both-size (get_or key i (pos 0))))
    (All-get_or (λ s. unsigned_abs s ≤ 1) key i (pos 0) (omega (arith, h.size)) h.ternary)

-- ---- products with it

pub ring-comm : (top c : ℕ) (a b : ℕ → ℕ) → ((i : ℕ) → top < i → a i ≡ 0) → ((i : ℕ) → top < i → b i ≡ 0) → (k : ℕ) → k ≤ top
    → ring top c a b k ≡ ring top c b a k
ring-comm top c a b za zb k le =
    sym (spread-ring top c a b za zb k le)
    ∙ (λ i. spread-comm a b k i + c * spread-comm a b (k + suc top) i)
    ∙ spread-ring top c b a zb za k le

ring-signed : (top c w : ℕ) (up down f : ℕ → ℕ) (k : ℕ) → ring top c (signed w up down) f k ≡ ring top c up f k + w * ring top c down f k
unfolding ring
ring-signed top c w up down f k =
    sum_below-same (suc top) (λ i. (up i + w * down i) * turned top c i f k) (λ i. up i * turned top c i f k + w * (down i * turned top c i f k))
    (λ i lt. parted (up i) (down i) (turned top c i f k))
    ∙ sum_below-add (suc top) (λ i. up i * turned top c i f k) (λ i. w * (down i * turned top c i f k))
    ∙ ap (λ (u : ℕ). sum_below (suc top) (λ i. up i * turned top c i f k) + u) (sum_below-times (suc top) w (λ i. down i * turned top c i f k))
  where
    parted : (u v y : ℕ) → (u + w * v) * y ≡ u * y + w * (v * y)
    parted u v y = omega arith

-- what the product with the key takes from a number that is near by `more` and `less`
abbrev pub first_part : (top : ℕ) (up down more less : ℕ → ℕ) → ℕ → ℕ
first_part top up down more less k = spread up less k + spread up more (k + suc top) + (spread down more k + spread down less (k + suc top))

-- with the near numbers' x + less = y + more it is near by these parts
pub near-signed : (top q c : ℕ) (up down x y more less : ℕ → ℕ) → (c + 1) % q ≡ 0
    → ((i : ℕ) → top < i → up i ≡ 0) → ((i : ℕ) → top < i → down i ≡ 0) → ((i : ℕ) → top < i → more i ≡ 0) → ((i : ℕ) → top < i → less i ≡ 0)
    → ((i : ℕ) → i ≤ top → (x i + less i) % q ≡ (y i + more i) % q) → (k : ℕ) → k ≤ top
    → (ring top c (signed c up down) x k + first_part top up down more less k) % q ≡ (ring top c (signed c up down) y k + first_part top up down less more k) % q
near-signed top q c up down x y more less e zu zd zm zl near k le =
    ap (λ (u : ℕ). (u + first_part top up down more less k) % q) (ring-signed top c c up down x k)
    ∙ joined (ring top c up x k) (ring top c up y k) (ring top c down x k) (ring top c down y k)
    (spread up less k + spread up more (k + suc top)) (spread up more k + spread up less (k + suc top))
    (spread down less k + spread down more (k + suc top)) (spread down more k + spread down less (k + suc top))
    (near-product top q c up x y more less e zu zm zl near k le) (near-product top q c down x y more less e zd zm zl near k le)
    ∙ ap (λ (u : ℕ). (u + first_part top up down less more k) % q) (sym (ring-signed top c c up down y k))
  where
    joined : (ux uy dx dy lu mu ld md : ℕ) → (ux + lu) % q ≡ (uy + mu) % q → (dx + ld) % q ≡ (dy + md) % q
        → (ux + c * dx + (lu + md)) % q ≡ (uy + c * dy + (mu + ld)) % q
    joined ux uy dx dy lu mu ld md hu hd =
        let left : ux + lu + c * (dx + ld) + (ld + md) ≡ ux + c * dx + (lu + md) + c * ld + ld = omega arith in
        let right : uy + mu + c * (dy + md) + (ld + md) ≡ uy + c * dy + (mu + ld) + c * md + md = omega arith in
        sym (ap (λ (u : ℕ). u % q) left ∙ minus_one-times q c ld (ux + c * dx + (lu + md)) e)
        ∙ sum_congruent q (ux + lu + c * (dx + ld)) (uy + mu + c * (dy + md)) (ld + md) (ld + md)
        (sum_congruent q (ux + lu) (uy + mu) (c * (dx + ld)) (c * (dy + md)) hu (times_congruent q c (dx + ld) (dy + md) hd)) refl
        ∙ ap (λ (u : ℕ). u % q) right
        ∙ minus_one-times q c md (uy + c * dy + (mu + ld)) e

-- both parts together are small: a coefficient of the key is above 0 or below it, and not both
pub signed-bound : (top b : ℕ) (up down more less : ℕ → ℕ)
    → ((i : ℕ) → top < i → up i ≡ 0) → ((i : ℕ) → top < i → down i ≡ 0) → ((i : ℕ) → top < i → more i ≡ 0) → ((i : ℕ) → top < i → less i ≡ 0)
    → ((i : ℕ) → i ≤ top → up i + down i ≤ 1) → ((i : ℕ) → i ≤ top → more i + less i ≤ b) → (k : ℕ) → k ≤ top
    → first_part top up down more less k + first_part top up down less more k ≤ suc top * (1 * b)
signed-bound top b up down more less zu zd zm zl hp h k le =
    let all = error-bound top 1 b (λ i. up i + down i) more less none zm zl hp h k le in
    let one = spread-plus up down more k in
    let two = spread-plus up down less (k + suc top) in
    let three = spread-plus up down less k in
    let four = spread-plus up down more (k + suc top) in
    omega (arith, all, one, two, three, four)
  where
    none : (i : ℕ) → top < i → up i + down i ≡ 0
    none i lt = let u = zu i lt in let d = zd i lt in omega (arith, u, d)
