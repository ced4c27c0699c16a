-- Numbered work that threads do: its values in their places.
use Rattle.std.proofs.Common.{◌≡◌, ℕ, zero, suc, ◌+◌, ◌<◌, List, [], ◌∷◌, ◌++◌, Option, None, Some, IfSome, length, length-append, get_or, slice_set, refl, ap, sym, subst, inl, inr, ◌∙◌, arith}
use Rattle.std.proofs.lemmas.Bool.{cases_eq, cases_lt}
use Rattle.std.proofs.lemmas.List.{get_or-set_other, length-set}
use Rattle.std.proofs.Math.ListN.{get_or-append}
use Rattle.std.proofs.Math.Seq.{get_or-append_seam}
use Rattle.std.proofs.lemmas.Grind.{get_or-set_at}
use Rattle.std.specs.List.{All, AllZip, range_with_len}
use Rattle.std.specs.Fn.{FnReturns}
use Rattle.std.specs.Fork.{GivesEach}
use denote.Param.Members.{Shared}
use Rattle.psi_receiver.specs.Works.{AreInPlace, IsWork}

-- what holds of each holds of the first and of the others
pub first-and-rest : {A : Type 0} (P : A → Type 0) (xs : List A) (x : A) (rest : List A) → xs ≡ x ∷ rest → All P xs → P x × All P rest
first-and-rest P xs x rest e h =
    let each = subst (All P) e h in
    (each 0 x (omega arith), λ k d lt. each (suc k) d (omega arith))

module _ {F X : Type 0} (g : Shared F (ℕ × Unit {0}) X) (f : F) (count : ℕ) where
  -- one more value in its place
  pub in_place-set : (places : List (Option X)) (number : ℕ) (value : X) → AreInPlace g f count places → IsWork g f count number value
      → AreInPlace g f count (slice_set places number (Some value))
  in_place-set places number value h work = record {
    size = length-set places number (Some value) ∙ h.size;
    each = λ i d lt.
        elim (cases_eq i number) [
          | inl same ↦ subst (λ o. IfSome o (FnReturns g f (i, tt))) (sym (get_or-set_at places number i (Some value) d same (let size = h.size in let within = work.0 in omega arith)))
              (subst (λ n. FnReturns g f (n, tt) value) (sym same) work.1)
          | inr other ↦ subst (λ o. IfSome o (FnReturns g f (i, tt))) (sym (get_or-set_other places number i (Some value) d other)) (h.each i d lt)
        ];
  }

  -- no value has come
  pub in_place-none : (places : List (Option X)) → length places ≡ count → All (λ place. place ≡ None) places → AreInPlace g f count places
  in_place-none places size none = record {
    size = size;
    each = λ i d lt. subst (λ o. IfSome o (FnReturns g f (i, tt))) (sym (none i d (omega arith))) tt;
  }

-- a list with one more element
pub length-more : {A : Type 0} (xs ys : List A) (x : A) → ys ≡ xs ++ x ∷ [] → length ys ≡ length xs + 1
length-more xs ys x e = ap length e ∙ length-append xs (x ∷ [])

module _ {F X : Type 0} (g : Shared F (ℕ × Unit {0}) X) (f : F) where
  -- one more value in order
  pub in_order-more : (xs ys : List X) (value : X) → GivesEach g f (length xs) xs → FnReturns g f (length xs, tt) value → ys ≡ xs ++ value ∷ [] → GivesEach g f (length ys) ys
  in_order-more xs ys value done here e i d lt =
      let size = length-more xs ys value e in (
        refl,
        elim (cases_lt i (length xs)) [
          | inl before ↦ subst (λ y. FnReturns g f (i, tt) y) (sym (ap (λ zs. get_or zs i d) e ∙ get_or-append xs (value ∷ []) d i before)) (done i d before).1
          | inr behind ↦
              let same : i ≡ length xs = omega arith in
              subst (λ y. FnReturns g f (i, tt) y) (sym (ap (λ zs. get_or zs i d) e ∙ ap (λ n. get_or (xs ++ value ∷ []) n d) same ∙ get_or-append_seam xs value [] d))
              (subst (λ n. FnReturns g f (n, tt) value) (sym same) here)
        ],
      )

  -- what has come for the next number, and for those behind it
  pub next-place : (xs : List (Option X)) (x : Option X) (rest : List (Option X)) (n m : ℕ) → xs ≡ x ∷ rest → m ≡ n + 1
      → ((k : ℕ) (d : Option X) → k < length xs → IfSome (get_or xs k d) (FnReturns g f (n + k, tt)))
      → IfSome x (FnReturns g f (n, tt)) × ((k : ℕ) (d : Option X) → k < length rest → IfSome (get_or rest k d) (FnReturns g f (m + k, tt)))
  next-place xs x rest n m e next h =
      let each = subst (λ (zs : List (Option X)). (k : ℕ) (d : Option X) → k < length zs → IfSome (get_or zs k d) (FnReturns g f (n + k, tt))) e h in
      let here : n + 0 ≡ n = omega arith in (
        subst (λ j. IfSome x (FnReturns g f (j, tt))) here (each 0 x (omega arith)),
        λ k d lt. let there : n + suc k ≡ m + k = omega arith in subst (λ j. IfSome (get_or rest k d) (FnReturns g f (j, tt))) there (each (suc k) d (omega arith)),
      )

range-zip : {X : Type 0} (P : ℕ → X → Type 0) (a n : ℕ) (rs : List X) → length rs ≡ n → ((i : ℕ) (d : X) → i < n → P (a + i) (get_or rs i d)) → AllZip P (range_with_len a n) rs
range-zip P a zero [] e h = tt
range-zip P a zero (r ∷ rs) e h = absurd (omega (arith, e))
range-zip P a (suc n) [] e h = absurd (omega (arith, e))
range-zip P a (suc n) (r ∷ rs) e h =
    let here : a + 0 ≡ a = omega arith in (
      subst (λ k. P k r) here (h 0 r (omega arith)),
      range-zip P (a + 1) n rs (omega (arith, e)) (λ i d lt. let there : a + suc i ≡ a + 1 + i = omega arith in subst (λ k. P k (get_or rs i d)) there (h (suc i) d (omega arith))),
    )

-- what holds of the value of each number holds of the numbers and the values in their order
pub numbers-zip : {X : Type 0} (P : ℕ → X → Type 0) (n : ℕ) (rs : List X) → length rs ≡ n → ((i : ℕ) (d : X) → i < n → P i (get_or rs i d)) → AllZip P (range_with_len 0 n) rs
numbers-zip P n rs e h = range-zip P 0 n rs e (λ i d lt. let same : i ≡ 0 + i = omega arith in subst (λ k. P k (get_or rs i d)) same (h i d lt))
