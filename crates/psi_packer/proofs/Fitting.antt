-- First fit of members into a list of bundles.
use Rattle.std.proofs.Common.{◌≡◌, ℕ, ◌+◌, ◌<◌, Bool, true, List, [], ◌∷◌, ◌++◌, length, map, drop, refl, sym, ap, ◌∙◌, arith, Some, None, add-one}
use Rattle.std.specs.Prelude.{slice_index_or, slice_set}
use Rattle.std.specs.List.{fold, position_from}
use Rattle.std.proofs.Math.Seq.{drop-cons}
use Rattle.std.proofs.lemmas.List.Sums.{fold-append}
use Rattle.psi_bundle.specs.declared.member.Member.{Member}
use Rattle.psi_bundle.specs.Bins.{accepts, bin_at, empty_bins}
use Rattle.psi_bundle.specs.Versions.{Row, Stamped, first_fit, packed_row, members_of_row}
use Rattle.psi_bundle.specs.Shows.{packed_bins}
use Rattle.psi_bundle.proofs.FirstFit.{position_passes, place-at, place-none}
use Rattle.psi_packer.specs.Packing.{unstamped_row, fitted, bin_members, bundle_members}

-- a bundle with the stamp 0
abbrev bare_of : List (List Member) → Stamped
bare_of bins = record { stamp = 0; bins = bins }

module _ (capacity b : ℕ) (m : Member) (items : List (List (List Member))) where
  -- the bundle that is found accepts the member
  pub found-accepts : (i : ℕ) (r : List (List Member)) → position_from (λ u. accepts capacity (bin_at u b) m.tag) 0 items ≡ Some i → r ≡ slice_index_or items i r
      → accepts capacity (bin_at r b) m.tag ≡ true
  found-accepts i r e here =
      let test : List (List Member) → Bool = λ u. accepts capacity (bin_at u b) m.tag in
      ap test here ∙ position_passes test items 0 i r (e ∙ ap Some (omega arith))

  pub fits-at : (i : ℕ) (r new : List (List Member)) → position_from (λ u. accepts capacity (bin_at u b) m.tag) 0 items ≡ Some i → r ≡ slice_index_or items i r
      → new ≡ slice_set r b (bin_at r b ++ m ∷ []) → unstamped_row (slice_set items i new) ≡ first_fit capacity 0 b m (unstamped_row items)
  fits-at i r new e here is = place-at bare_of capacity 0 b m items i r new e here (ap bare_of is)

  pub fits-none : (new : List (List Member)) (after : List (List (List Member))) → position_from (λ u. accepts capacity (bin_at u b) m.tag) 0 items ≡ None
      → new ≡ slice_set empty_bins b (bin_at empty_bins b ++ m ∷ []) → after ≡ items ++ new ∷ [] → unstamped_row after ≡ first_fit capacity 0 b m (unstamped_row items)
  fits-none new after e is made = ap unstamped_row made ∙ place-none bare_of capacity 0 b m items new e (ap bare_of is)

-- one more bin of a bundle
bundle-step : (b : ℕ) (bins : List (List Member)) → b < length bins → bundle_members b (drop b bins) ≡ bin_members b (bin_at bins b) ++ bundle_members (b + 1) (drop (b + 1) bins)
bundle-step b bins lt =
    ap (bundle_members b) (drop-cons bins b [] lt)
    ∙ ap (λ (n : ℕ). bin_members b (bin_at bins b) ++ bundle_members (b + 1) (drop n bins)) (sym (add-one b))

pub bundle-more : (capacity b : ℕ) (bins : List (List Member)) (done after all : Row) → b < length bins → after ≡ fold (fitted capacity) done (bin_members b (bin_at bins b))
    → fold (fitted capacity) done (bundle_members b (drop b bins)) ≡ all → fold (fitted capacity) after (bundle_members (b + 1) (drop (b + 1) bins)) ≡ all
bundle-more capacity b bins done after all lt is so_far =
    ap (λ (row : Row). fold (fitted capacity) row (bundle_members (b + 1) (drop (b + 1) bins))) is
    ∙ sym (fold-append (fitted capacity) done (bin_members b (bin_at bins b)) (bundle_members (b + 1) (drop (b + 1) bins)))
    ∙ ap (fold (fitted capacity) done) (sym (bundle-step b bins lt))
    ∙ so_far

-- one more bundle of a row
pub row-more : (capacity : ℕ) (u : Stamped) (rest : Row) (done after all : Row) → after ≡ fold (fitted capacity) done (bundle_members 0 u.bins)
    → fold (fitted capacity) done (members_of_row (u ∷ rest)) ≡ all → fold (fitted capacity) after (members_of_row rest) ≡ all
row-more capacity u rest done after all is so_far =
    ap (λ (row : Row). fold (fitted capacity) row (members_of_row rest)) is
    ∙ sym (fold-append (fitted capacity) done (bundle_members 0 u.bins) (members_of_row rest))
    ∙ so_far

-- bundles without their stamps again
bins-bare : (bundles : List (List (List Member))) → map {A = Stamped} (λ u. u.bins) (unstamped_row bundles) ≡ bundles
bins-bare [] = refl
bins-bare (b ∷ bs) = ap (λ (rest : List (List (List Member))). b ∷ rest) (bins-bare bs)

pub packed-are : (capacity : ℕ) (bundles : List (List (List Member))) (row : Row) → unstamped_row bundles ≡ packed_row capacity 0 (members_of_row row) → bundles ≡ packed_bins capacity row
packed-are capacity bundles row is = sym (bins-bare bundles) ∙ ap (λ (w : Row). map {A = Stamped} (λ u. u.bins) w) is
