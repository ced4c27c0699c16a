-- A list that is written from the front.
use Rattle.std.proofs.Common.{◌≡◌, ℕ, ◌+◌, ◌%◌, ◌<◌, ◌≤◌, List, length, get_or, set, refl, ap, ◌∙◌, sym, subst, inl, inr, arith}
use Rattle.std.proofs.lemmas.Bool.{cases_eq}
use Rattle.std.proofs.lemmas.List.{get_or-set_other}
use Rattle.std.proofs.lemmas.Grind.{get_or-set_at}
use Rattle.psi_residue.specs.Polynomials.{IsPolynomial}

-- the first n elements are as f says, the others as they were
pub record IsFilled (f : ℕ → ℕ) (old new : List ℕ) (n : ℕ) : Type 0 where
  pub done : (i : ℕ) → i < n → get_or new i 0 ≡ f i
  pub rest : (i : ℕ) → n ≤ i → get_or new i 0 ≡ get_or old i 0

pub filled-none : (f : ℕ → ℕ) (old : List ℕ) → IsFilled f old old 0
filled-none f old = record { done = λ i lt. absurd (omega arith); rest = λ i le. refl }

pub filled-more : (f : ℕ → ℕ) (old new : List ℕ) (n y : ℕ) → n < length new → y ≡ f n → IsFilled f old new n → IsFilled f old (set new n y) (n + 1)
filled-more f old new n y lt y-is before = record {
  done = λ i i_lt.
      elim (cases_eq i n) [
        | inl here ↦ get_or-set_at new n i y 0 here lt ∙ y-is ∙ ap f (sym here)
        | inr other ↦ get_or-set_other new n i y 0 other ∙ before.done i (omega (arith, other))
      ];
  rest = λ i le. get_or-set_other new n i y 0 (λ e. absurd (omega (arith, e))) ∙ before.rest i (omega arith);
}

pub filled-along : (f : ℕ → ℕ) (old new : List ℕ) (n k : ℕ) → n ≡ k → IsFilled f old new n → IsFilled f old new k
filled-along f old new n k e filled = subst (λ (i : ℕ). IsFilled f old new i) e filled

pub filled-below : (q : ℕ) (f : ℕ → ℕ) (old new : List ℕ) (n : ℕ) → ((i : ℕ) → f i < q) → 4096 ≤ n → length new ≡ 4096 → IsFilled f old new n → IsPolynomial q new
filled-below q f old new n below all len filled = record {
  size = len;
  below = λ i lt. rw (filled.done i (omega arith)) (below i);
}

pub mod-below : (u q : ℕ) → 0 < q → u % q < q
mod-below u q positive = omega arith
