-- Lists without repeats, one element more at the end.
use Rattle.std.proofs.Common.{◌≡◌, ℕ, Bool, false, not, cond, ◌||◌, List, [], ◌∷◌, ◌++◌, refl, sym, ap, ◌∙◌, inl, inr, append-nil}
use Rattle.std.specs.List.{filter, list_any}
use Rattle.std.specs.Str.{bytes_eq}
use Rattle.std.proofs.lemmas.Bool.{cases_Bool}
use Rattle.std.proofs.lemmas.List.Elements.{filter-append}
use Rattle.std.proofs.lemmas.Slice.Eq.{bytes_eq-Decides}
use Rattle.psi_cli.specs.ItemTexts.{without_repeats}

-- an element of the list equals y
abbrev pub has : List (List ℕ) → List ℕ → Bool
has xs y = list_any (λ x. bytes_eq x y) xs

-- x leaves a list with what equals it
abbrev without : List ℕ → List (List ℕ) → List (List ℕ)
without x xs = filter (λ y. not (bytes_eq x y)) xs

pub without_repeats-none : without_repeats [] ≡ []
unfolding without_repeats
without_repeats-none = refl

-- what x does not equal stays
has-without : (x y : List ℕ) (zs : List (List ℕ)) → bytes_eq x y ≡ false → has (without x zs) y ≡ has zs y
has-without x y [] apart = refl
has-without x y (z ∷ zs) apart = elim (cases_Bool (bytes_eq x z)) [
  | inl same ↦
      let z_is : x ≡ z = (bytes_eq-Decides x z).0 same in
      let other : bytes_eq z y ≡ false = ap (λ (q : List ℕ). bytes_eq q y) (sym z_is) ∙ apart in
      rw (same, other) (has-without x y zs apart)
  | inr differs ↦ rw differs (ap (λ (b : Bool). bytes_eq z y || b) (has-without x y zs apart))
]

-- one element more
abbrev pub with_one : List (List ℕ) → List ℕ → Bool → List (List ℕ)
with_one xs y there = cond there xs (xs ++ y ∷ [])

pub without_repeats-more : (xs : List (List ℕ)) (y : List ℕ) → without_repeats (xs ++ y ∷ []) ≡ with_one (without_repeats xs) y (has (without_repeats xs) y)
unfolding without_repeats
without_repeats-more [] y = refl
without_repeats-more (x ∷ xs) y =
    let rest = without_repeats xs in
    let more : without_repeats (xs ++ y ∷ []) ≡ with_one rest y (has rest y) = without_repeats-more xs y in
    elim (cases_Bool (bytes_eq x y)) [
      | inl same ↦ elim (cases_Bool (has rest y)) [
        | inl there ↦ ap (λ (ys : List (List ℕ)). x ∷ without x ys) (more ∙ ap (with_one rest y) there) ∙ rw same refl
        | inr missing ↦
            ap (λ (ys : List (List ℕ)). x ∷ without x ys) (more ∙ ap (with_one rest y) missing)
            ∙ ap (λ (ys : List (List ℕ)). x ∷ ys) (filter-append (λ z. not (bytes_eq x z)) rest (y ∷ []))
            ∙ rw same (ap (λ (ys : List (List ℕ)). x ∷ ys) (append-nil (without x rest)))
      ]
      | inr differs ↦
          let kept : has (without x rest) y ≡ has rest y = has-without x y rest differs in
          elim (cases_Bool (has rest y)) [
            | inl there ↦ ap (λ (ys : List (List ℕ)). x ∷ without x ys) (more ∙ ap (with_one rest y) there) ∙ rw (differs, kept, there) refl
            | inr missing ↦
                ap (λ (ys : List (List ℕ)). x ∷ without x ys) (more ∙ ap (with_one rest y) missing)
                ∙ ap (λ (ys : List (List ℕ)). x ∷ ys) (filter-append (λ z. not (bytes_eq x z)) rest (y ∷ []))
                ∙ rw (differs, kept, missing) refl
          ]
    ]
