-- Lists that are written place by place, from the front on or from the back.
use Rattle.std.proofs.Common.{◌≡◌, ℕ, ◌+◌, ◌<◌, ◌≤◌, List, length, get_or, slice_index, set, map, ap, sym, ◌∙◌, inl, inr, arith}
use Rattle.std.specs.List.{range_with_len}
use Rattle.std.proofs.lemmas.Bool.{cases_eq, cases_lt}
use Rattle.std.proofs.lemmas.List.{get_or-set_same, get_or-set_other, length-set}
use Rattle.std.proofs.lemmas.List.FromFn.{fill_by_all}
use Rattle.std.proofs.lemmas.Grind.{get_or-set_at}

-- ---- all elements, by what they are to be and what they were

-- below i the elements are new, from i on old; past the end they are d
pub record IsFilled {X : Type 0} (d : X) (new old : ℕ → X) (xs : List X) (i : ℕ) : Type 0 where
  pub done : (k : ℕ) → k < i → get_or xs k d ≡ new k
  pub rest : (k : ℕ) → i ≤ k → k < length xs → get_or xs k d ≡ old k

pub IsFilled-none : {X : Type 0} (d : X) (new old : ℕ → X) (xs : List X) → ((k : ℕ) → k < length xs → get_or xs k d ≡ old k) → IsFilled d new old xs 0
IsFilled-none d new old xs h = record { done = λ k lt. absurd (omega arith); rest = λ k le lt. h k lt }

pub IsFilled-more : {X : Type 0} (d : X) (new old : ℕ → X) (xs : List X) (i : ℕ) (x : X) → i < length xs → x ≡ new i → IsFilled d new old xs i → IsFilled d new old (set xs i x) (i + 1)
IsFilled-more {X} d new old xs i x within e h = record {
  done = λ k lt.
      elim (cases_eq k i) [
        | inl same ↦ ap (λ (j : ℕ). get_or (set xs i x) j d) same ∙ get_or-set_same xs i x d within ∙ e ∙ sym (ap new same)
        | inr other ↦ get_or-set_other xs i k x d other ∙ h.done k (omega arith)
      ];
  rest = λ k le lt.
      get_or-set_other xs i k x d (λ same. absurd (omega (arith, same)))
      ∙ h.rest k (omega arith) (omega (arith, length-set xs i x));
}

pub IsFilled-all : {X : Type 0} (d : X) (new old : ℕ → X) (xs : List X) (n i : ℕ) → length xs ≡ n → n ≤ i → IsFilled d new old xs i → xs ≡ map new (range_with_len 0 n)
IsFilled-all d new old xs n i len all h = fill_by_all new xs n d len (λ k lt. h.done k (omega arith))

-- ---- the written ones alone, in loops up and down

-- the places from the first one on
pub up_done_from : (f : ℕ → ℕ) (xs : List ℕ) (first k x : ℕ) → k < length xs → x ≡ f k → ((i : ℕ) → first ≤ i → i < k → slice_index xs i ≡ f i)
    → (i : ℕ) → first ≤ i → i < k + 1 → slice_index (set xs k x) i ≡ f i
up_done_from f xs first k x within here before i low lt =
    elim (cases_lt i k) [
      | inl less ↦ get_or-set_other xs k i x 0 (λ same. absurd (omega (arith, same))) ∙ before i low less
      | inr ge ↦ let same : i ≡ k = omega arith in get_or-set_at xs k i x 0 same within ∙ here ∙ sym (ap f same)
    ]

pub up_done : (f : ℕ → ℕ) (xs : List ℕ) (k x : ℕ) → k < length xs → x ≡ f k → ((i : ℕ) → i < k → slice_index xs i ≡ f i)
    → (i : ℕ) → i < k + 1 → slice_index (set xs k x) i ≡ f i
up_done f xs k x within here before i lt = up_done_from f xs 0 k x within here (λ j low less. before j less) i (omega arith) lt

pub up_left : (f : ℕ → ℕ) (xs : List ℕ) (k x : ℕ) → ((i : ℕ) → k ≤ i → slice_index xs i ≡ f i) → (i : ℕ) → k + 1 ≤ i → slice_index (set xs k x) i ≡ f i
up_left f xs k x left i le = get_or-set_other xs k i x 0 (λ same. absurd (omega (arith, same))) ∙ left i (omega arith)

pub down_done : (f : ℕ → ℕ) (xs : List ℕ) (k x : ℕ) → k < length xs → x ≡ f k → ((i : ℕ) → k + 1 ≤ i → slice_index xs i ≡ f i)
    → (i : ℕ) → k ≤ i → slice_index (set xs k x) i ≡ f i
down_done f xs k x within here before i le =
    elim (cases_lt k i) [
      | inl more ↦ get_or-set_other xs k i x 0 (λ same. absurd (omega (arith, same))) ∙ before i (omega arith)
      | inr ge ↦ let same : i ≡ k = omega arith in get_or-set_at xs k i x 0 same within ∙ here ∙ sym (ap f same)
    ]

pub down_left : (f : ℕ → ℕ) (xs : List ℕ) (k x : ℕ) → ((i : ℕ) → i < k + 1 → slice_index xs i ≡ f i) → (i : ℕ) → i < k → slice_index (set xs k x) i ≡ f i
down_left f xs k x left i lt = get_or-set_other xs k i x 0 (λ same. absurd (omega (arith, same))) ∙ left i (omega arith)
