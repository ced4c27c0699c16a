-- How often the plaintext modulus t goes into a whole number with a given residue, and what that comes to under the scale.
use Rattle.std.proofs.Common.{◌≡◌, ℕ, ◌+◌, ◌-◌, ◌*◌, ◌/◌, ◌%◌, ◌<◌, ◌≤◌, refl, ap, ◌∙◌, sym, inl, inr, arith}
use Rattle.std.proofs.lemmas.Bool.{cases_lt}
use Rattle.std.proofs.lemmas.Nat.{le-div}
use Rattle.psi_residue.proofs.Congruences.{sum_congruent, minus_one-times, mod-witness, mod-from_witness}

-- x is y and t times `up` less `down`
pub record CarryOf (t bound x y : ℕ) : Type 0 where
  pub up : ℕ
  pub down : ℕ
  pub exact : x + t * down ≡ y + t * up
  pub small : up + down ≤ bound

pub carry-bound : (t big x y up down : ℕ) → 0 < t → x + t * down ≡ y + t * up → x ≤ big → up ≤ down + big / t
carry-bound t big x y up down positive e le =
    elim (cases_lt down up) [
      | inl lt ↦
          let parts : down + (up - down) ≡ up = omega arith in
          let bound : up - down ≤ big / t = le-div (up - down) big t positive (multiple (up - down) parts) in
          omega arith
      | inr ge ↦ omega arith
    ]
  where
    multiple : (d : ℕ) → down + d ≡ up → d * t ≤ big
    multiple d parts =
        let product : t * (down + d) ≡ t * up = ap (λ (u : ℕ). t * u) parts in
        omega arith

-- numbers with one residue differ by t times a whole number
pub carry-of : (t big x y : ℕ) → 0 < t → x ≤ big → y ≤ big → x % t ≡ y % t → CarryOf t (big / t) x y
carry-of t big x y positive lex ley e =
    elim (cases_lt (x / t) (y / t)) [
      | inl lt ↦
          let parts : x / t + (y / t - x / t) ≡ y / t = omega arith in
          let exact = below (y / t) (x / t) (y / t - x / t) parts whole in
          record { up = 0; down = y / t - x / t; exact = exact; small = small_down (y / t - x / t) (carry-bound t big y x (y / t - x / t) 0 positive (sym exact) ley) }
      | inr ge ↦
          let parts : y / t + (x / t - y / t) ≡ x / t = omega arith in
          let exact = above (x / t) (y / t) (x / t - y / t) parts whole in
          record { up = x / t - y / t; down = 0; exact = exact; small = small (x / t - y / t) (carry-bound t big x y (x / t - y / t) 0 positive exact lex) }
    ]
  where
    whole : x + t * (y / t) ≡ y + t * (x / t)
    whole = mod-witness t x y e

    below : (a b d : ℕ) → b + d ≡ a → x + t * a ≡ y + t * b → x + t * d ≡ y + t * 0
    below a b d parts h = let product : t * (b + d) ≡ t * a = ap (λ (u : ℕ). t * u) parts in omega arith

    above : (a b d : ℕ) → b + d ≡ a → x + t * b ≡ y + t * a → x + t * 0 ≡ y + t * d
    above a b d parts h = let product : t * (b + d) ≡ t * a = ap (λ (u : ℕ). t * u) parts in omega arith

    small : (d : ℕ) → d ≤ 0 + big / t → d + 0 ≤ big / t
    small d h = omega arith

    small_down : (d : ℕ) → d ≤ 0 + big / t → 0 + d ≤ big / t
    small_down d h = omega arith

-- Δ·x is congruent to Δ·(y + m) less r for each carry, modulo q = Δ·t + r
pub carry-scaled : (q delta t r x y m up down : ℕ) → q ≡ delta * t + r → x + t * down ≡ y + m + t * up
    → (delta * x + r * up) % q ≡ (delta * y + delta * m + r * down) % q
carry-scaled q delta t r x y m up down parts e =
    let whole : delta * (x + t * down) ≡ delta * (y + m + t * up) = ap (λ (u : ℕ). delta * u) e in
    let downs : q * down ≡ (delta * t + r) * down = ap (λ (u : ℕ). u * down) parts in
    let ups : q * up ≡ (delta * t + r) * up = ap (λ (u : ℕ). u * up) parts in
    let sum : delta * x + r * up + q * down ≡ delta * y + delta * m + r * down + q * up = omega arith in
    mod-from_witness q (delta * x + r * up) (delta * y + delta * m + r * down) down up sum

-- What is near Δ·(x - y) is near Δ·m, by the carry's rest more.
pub near-carried : (q c delta r z x y m more less up down : ℕ) → (c + 1) % q ≡ 0
    → (z + less) % q ≡ (delta * (x + c * y) + more) % q
    → (delta * x + r * up) % q ≡ (delta * y + delta * m + r * down) % q
    → (z + (less + r * up)) % q ≡ (delta * m + (more + r * down)) % q
near-carried q c delta r z x y m more less up down e near scaled =
    let first : z + (less + r * up) ≡ z + less + r * up = omega arith in
    let second : delta * (x + c * y) + more + r * up ≡ delta * x + r * up + (c * (delta * y) + more) = omega arith in
    let third : delta * y + delta * m + r * down + (c * (delta * y) + more) ≡ delta * m + (more + r * down) + c * (delta * y) + delta * y = omega arith in
    ap (λ (u : ℕ). u % q) first
    ∙ sum_congruent q (z + less) (delta * (x + c * y) + more) (r * up) (r * up) near refl
    ∙ ap (λ (u : ℕ). u % q) second
    ∙ sum_congruent q (delta * x + r * up) (delta * y + delta * m + r * down) (c * (delta * y) + more) (c * (delta * y) + more) scaled refl
    ∙ ap (λ (u : ℕ). u % q) third
    ∙ minus_one-times q c (delta * y) (delta * m + (more + r * down)) e
