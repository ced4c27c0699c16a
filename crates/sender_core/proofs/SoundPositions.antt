-- What stands in a list, by recursion.
use Rattle.std.proofs.Common.{◌≡◌, ◌⊎◌, ℕ, zero, suc, ◌<◌, List, [], ◌∷◌, length, get_or, Contains, inl, inr, subst, arith}
use Rattle.std.specs.List.{AllByRecursion}

-- x stands in the list
abbrev pub IsIn : List ℕ → ℕ → Type 0
IsIn [] x = ⊥
IsIn (y ∷ ys) x = (y ≡ x) ⊎ IsIn ys x

pub IsIn-from_Contains : (xs : List ℕ) (x : ℕ) → Contains xs x → IsIn xs x
IsIn-from_Contains xs x h = by_place xs h.0 h.1 h.2
  where
    by_place : (ys : List ℕ) (k : ℕ) → k < length ys → get_or ys k x ≡ x → IsIn ys x
    by_place [] k lt e = absurd (omega arith)
    by_place (y ∷ ys) zero lt e = inl e
    by_place (y ∷ ys) (suc k) lt e = inr (by_place ys k (omega arith) e)

pub Contains-from_IsIn : (xs : List ℕ) (x : ℕ) → IsIn xs x → Contains xs x
Contains-from_IsIn [] x h = absurd h
Contains-from_IsIn (y ∷ ys) x (inl e) = (0, omega arith, e)
Contains-from_IsIn (y ∷ ys) x (inr h) = let rest = Contains-from_IsIn ys x h in (suc rest.0, omega (arith, rest.1), rest.2)

pub all-at : (P : ℕ → Type 0) (xs : List ℕ) (x : ℕ) → AllByRecursion P xs → IsIn xs x → P x
all-at P [] x h found = absurd found
all-at P (y ∷ ys) x h (inl e) = subst P e h.0
all-at P (y ∷ ys) x h (inr later) = all-at P ys x h.1 later
