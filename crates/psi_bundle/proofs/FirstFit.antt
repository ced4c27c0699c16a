-- First fit in a row, by the position of the first bundle that accepts.
use Rattle.std.specs.Prelude.{◌≡◌, ℕ, zero, suc, ◌+◌, ◌<◌, ◌≤◌, Bool, true, false, cond, List, [], ◌∷◌, ◌++◌, length, map, Option, Some, None, slice_index_or, slice_set, if◌then◌else◌, nat_lt}
use Rattle.std.specs.List.{position_from}
use Rattle.std.proofs.Common.{refl, sym, ap, ◌∙◌, arith}
use Rattle.std.proofs.lemmas.Bool.{lt-ltb}
use Rattle.std.proofs.lemmas.List.{get_or-replicate, map-set, map-append}
use Rattle.std.proofs.Math.ListN.{get_or-map}
use Rattle.psi_bundle.specs.declared.member.Member.{Member}
use Rattle.item_slots.specs.Tags.{bins_of_row}
use Rattle.psi_bundle.specs.Bins.{accepts, bin_at, empty_bins}
use Rattle.psi_bundle.specs.Versions.{Stamped, Row, first_fit, joined, empty_bundle}

-- where a bundle accepts the member's tag
abbrev pub takes : ℕ → ℕ → Member → Stamped → Bool
takes capacity b m u = accepts capacity (bin_at u.bins b) m.tag

from_case : (t : Bool) (m k : ℕ) (rest : Option ℕ) → cond t (Some m) rest ≡ Some k → (rest ≡ Some k → m ≤ k) → m ≤ k
from_case true m k rest e h = let same : m ≡ k = cc in omega arith
from_case false m k rest e h = h e

module _ {X : Type 0} where
  -- a position that is counted from m on is no less
  least_position : (p : X → Bool) (xs : List X) (m k : ℕ) → position_from p m xs ≡ Some k → m ≤ k
  least_position p [] m k e = absurd cc
  least_position p (x ∷ xs) m k e = from_case (p x) m k (position_from p (m + 1) xs) e (λ h. omega (arith, least_position p xs (m + 1) k h))

  passes_case : (p : X → Bool) (x : X) (n i : ℕ) (rest : Option ℕ) (t : Bool) → p x ≡ t → cond t (Some n) rest ≡ Some (n + suc i) → rest ≡ Some (n + suc i)
  passes_case p x n i rest true h e = let same : n ≡ n + suc i = cc in absurd (omega arith)
  passes_case p x n i rest false h e = e

  first_case : (p : X → Bool) (xs : List X) (x : X) (n : ℕ) (t : Bool) → p x ≡ t → cond t (Some n) (position_from p (n + 1) xs) ≡ Some (n + zero)
      → ((m k : ℕ) → position_from p m xs ≡ Some k → m ≤ k) → t ≡ true
  first_case p xs x n true h e least = refl
  first_case p xs x n false h e least = absurd (omega (arith, least (n + 1) (n + zero) e))

  -- what stands at a position passes the test
  pub position_passes : (p : X → Bool) (xs : List X) (n i : ℕ) (d : X) → position_from p n xs ≡ Some (n + i) → p (slice_index_or xs i d) ≡ true
  position_passes p [] n i d e = absurd cc
  position_passes p (x ∷ xs) n zero d e = first_case p xs x n (p x) refl e (least_position p xs)
  position_passes p (x ∷ xs) n (suc i) d e =
      position_passes p xs (n + 1) i d (passes_case p x n i (position_from p (n + 1) xs) (p x) refl e ∙ ap Some (omega arith))

pub position-map : {X Y : Type 0} (f : X → Y) (p : Y → Bool) (xs : List X) (n : ℕ) → position_from p n (map f xs) ≡ position_from (λ x. p (f x)) n xs
position-map f p [] n = refl
position-map f p (x ∷ xs) n = ap (cond (p (f x)) (Some n)) (position-map f p xs (n + 1))

-- a row of which one bundle is changed, or none is
module _ (p : Stamped → Bool) (new : Stamped → Stamped) (u : Stamped) (us rest : Row) (n : ℕ) (d : Stamped) where
  changed_here : (t : Bool) (i : ℕ) → cond t (Some n) (position_from p (n + 1) us) ≡ Some (n + i)
      → ((j : ℕ) → position_from p (n + 1) us ≡ Some ((n + 1) + j) → (j < length us) × (rest ≡ slice_set us j (new (slice_index_or us j d))))
      → (i < suc (length us)) × ((if t then new u ∷ us else u ∷ rest) ≡ slice_set (u ∷ us) i (new (slice_index_or (u ∷ us) i d)))
  changed_here true zero e h = (omega arith, refl)
  changed_here true (suc j) e h = let same : n ≡ n + suc j = cc in absurd (omega arith)
  changed_here false zero e h = let far = least_position p us (n + 1) (n + zero) e in absurd (omega arith)
  changed_here false (suc j) e h =
      let at = h j (e ∙ ap Some (omega arith)) in
      (omega (arith, at.0), ap (λ (xs : Row). u ∷ xs) at.1)

  unchanged_here : (t : Bool) (last : Stamped) → cond t (Some n) (position_from p (n + 1) us) ≡ None → (position_from p (n + 1) us ≡ None → rest ≡ us ++ last ∷ [])
      → (if t then new u ∷ us else u ∷ rest) ≡ (u ∷ us) ++ last ∷ []
  unchanged_here true last e h = absurd cc
  unchanged_here false last e h = ap (λ (xs : Row). u ∷ xs) (h e)

module _ (capacity stamp b : ℕ) (m : Member) where
  -- a row whose first bundle that accepts is number i has that bundle changed
  pub first_fit-at : (row : Row) (i n : ℕ) (d : Stamped) → position_from (takes capacity b m) n row ≡ Some (n + i)
      → (i < length row) × (first_fit capacity stamp b m row ≡ slice_set row i (joined stamp b m (slice_index_or row i d)))
  unfolding first_fit
  first_fit-at [] i n d e = absurd cc
  first_fit-at (u ∷ us) i n d e =
      changed_here (takes capacity b m) (joined stamp b m) u us (first_fit capacity stamp b m us) n d (takes capacity b m u) i e (λ j h. first_fit-at us j (n + 1) d h)

  -- a row in which none accepts has a new last bundle
  pub first_fit-none : (row : Row) (n : ℕ) → position_from (takes capacity b m) n row ≡ None → first_fit capacity stamp b m row ≡ row ++ joined stamp b m (empty_bundle stamp) ∷ []
  unfolding first_fit
  first_fit-none [] n e = refl
  first_fit-none (u ∷ us) n e =
      unchanged_here (takes capacity b m) (joined stamp b m) u us (first_fit capacity stamp b m us) n u (takes capacity b m u) (joined stamp b m (empty_bundle stamp)) e (λ h. first_fit-none us (n + 1) h)

-- a new bundle accepts any tag
pub empty-accepts : (capacity b : ℕ) (tag : List ℕ) → 1 ≤ capacity → b < bins_of_row → accepts capacity (bin_at empty_bins b) tag ≡ true
unfolding accepts empty_bins
empty-accepts capacity b tag some h =
    let free : nat_lt 0 capacity ≡ true = lt-ltb 0 capacity some in
    ap (λ (bin : List Member). accepts capacity bin tag) (get_or-replicate 819 b [] [] h) ∙ rw free refl

-- a list of anything that stands for a row
module _ {X : Type 0} (f : X → Stamped) (capacity stamp b : ℕ) (m : Member) where
  -- where bundle number i is the first that accepts, it is changed
  pub place-at : (xs : List X) (i : ℕ) (x new : X) → position_from (λ y. accepts capacity (bin_at (f y).bins b) m.tag) 0 xs ≡ Some i → x ≡ slice_index_or xs i x
      → f new ≡ joined stamp b m (f x)
      → map f (slice_set xs i new) ≡ first_fit capacity stamp b m (map f xs)
  place-at xs i x new e here is =
      let found = first_fit-at capacity stamp b m (map f xs) i 0 (f x) (position-map f (takes capacity b m) xs 0 ∙ e ∙ ap Some (omega arith)) in
      let was : slice_index_or (map f xs) i (f x) ≡ f x = get_or-map f xs i x ∙ ap f (sym here) in
      map-set f xs i new
      ∙ ap (slice_set (map f xs) i) (is ∙ sym (ap (joined stamp b m) was))
      ∙ sym found.1

  -- where none accepts, there is a new last bundle
  pub place-none : (xs : List X) (new : X) → position_from (λ y. accepts capacity (bin_at (f y).bins b) m.tag) 0 xs ≡ None → f new ≡ joined stamp b m (empty_bundle stamp)
      → map f (xs ++ new ∷ []) ≡ first_fit capacity stamp b m (map f xs)
  place-none xs new e is =
      map-append f xs (new ∷ [])
      ∙ ap (λ (u : Stamped). map f xs ++ u ∷ []) is
      ∙ sym (first_fit-none capacity stamp b m (map f xs) 0 (position-map f (takes capacity b m) xs 0 ∙ e))
