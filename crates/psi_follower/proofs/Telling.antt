-- What a follower's set answers, from what its book tells.
use Rattle.std.specs.Prelude.{◌≡◌, ℕ, ◌<◌, ◌≤◌, Bool, true, false, List, [], ◌∷◌, length, map, Option, Some, None, is_some, Result, Ok, Err, IfOk}
use Rattle.std.specs.Option.{option_copied}
use Rattle.std.specs.FinMap as fin
use Rattle.std.specs.Arc.{arc_value}
use Rattle.std.proofs.Common.{refl, sym, ap, ◌∙◌, subst, arith, Vec, Global, Bor}
use Rattle.std.proofs.lemmas.List.{length-map}
use Rattle.psi_bundle.specs.declared.member.Member.{Member}
use Rattle.psi_bundle.specs.declared.cached.Shown.{Shown}
use Rattle.psi_bundle.specs.declared.history.Call.{Call}
use Rattle.psi_bundle.specs.declared.history.Call.TheVariants as call
use Rattle.psi_bundle.specs.declared.history.Answer.TheVariants as answer
use Rattle.psi_bundle.specs.Versions.{Row, greatest_stamp}
use Rattle.psi_bundle.specs.Shows.{packed_bins, shown_row}
use Rattle.psi_bundle.specs.Steps.{Step, step}
use Rattle.bundle_cache.specs.Caches.{CacheOf, cached_bins, is_cached_under}
use Rattle.sender_core.specs.Kept.{Contents, Kept, IsConsistent, version_of, kept_row, row_of, bundles_of}
use Rattle.sender_core.specs.Shown.{kept_of, kept_of_row}
use Rattle.sender_core.proofs.Consistency.{ready}
use Rattle.sender_core.proofs.Counting.{length-row}
use Rattle.sender_core.proofs.Entering.{step-removed, step-absent, step-seen}
use Rattle.sender_core.proofs.Repacking.{packed-fewer}
use Rattle.psi_follower.specs.Inner.Entering.{IsPacking}

-- shown bundles as a row of what is kept
pub shown-kept : {C : Type 0} (us : List (Shown C)) → shown_row us ≡ row_of (kept_of_row us)
shown-kept [] = refl
shown-kept (u ∷ us) = ap (λ (row : Row). record { stamp = u.stamp; bins = arc_value u.bundle } ∷ row) (shown-kept us)

module _ (h : Contents CacheOf) (consistent : IsConsistent cached_bins is_cached_under h) (r : ℕ) where
  -- a row has few bundles
  pub few-shown : (us : List (Shown CacheOf)) → kept_of_row us ≡ kept_row h.rows r → length us ≤ 64
  few-shown us is =
      omega (arith, length-map us kept_of, ap length is, length-row h.rows r, (ready cached_bins is_cached_under h consistent).few_bundles)

  -- and few that it is packed into
  pub few-packed : (packed : List (List (List Member))) → packed ≡ packed_bins h.parameters.capacity (row_of (kept_row h.rows r)) → length packed ≤ 64
  few-packed packed is =
      omega (arith, packed-fewer cached_bins is_cached_under h r packed consistent is, length-row h.rows r, (ready cached_bins is_cached_under h consistent).few_bundles)

-- what the row of a Repack is packed into
pub packing-is : (h : Contents CacheOf) (c : Call) (r from capacity : ℕ) (us : List (Shown CacheOf)) (packed : List (List (List Member))) → c ≡ call.Repack r from → kept_of_row us ≡ kept_row h.rows r → capacity ≡ h.parameters.capacity
    → packed ≡ packed_bins capacity (shown_row us) → IsPacking h c packed
packing-is h c r from capacity us packed is shown same made =
    subst (λ (c : Call). IsPacking h c packed) (sym is)
    (λ below. made ∙ (λ i. packed_bins (same i) (shown-kept us i)) ∙ ap (λ (ks : List (Kept CacheOf)). packed_bins h.parameters.capacity (row_of ks)) shown)

-- the answers to a Drop and an Ask
module _ (h : Contents CacheOf) (c : Call) where
  told : (d : Call) (s : Step) → c ≡ d → step (version_of h) d ≡ s → s.answer ≡ (step (version_of h) c).answer
  told d s is e = ap (λ (t : Step). t.answer) (sym e) ∙ ap (λ (d : Call). (step (version_of h) d).answer) (sym is)

  module _ (tag : List ℕ) (is : c ≡ call.Drop tag) (b : Bool) (is_b : b ≡ is_some (fin.get (version_of h).labels tag)) where
    pub would-remove : b ≡ true → answer.Removed ≡ (step (version_of h) c).answer
    would-remove has = told (call.Drop tag) _ is (step-removed (version_of h) tag (sym is_b ∙ has))

    pub would-lack : b ≡ false → answer.Absent ≡ (step (version_of h) c).answer
    would-lack lacks = told (call.Drop tag) _ is (step-absent (version_of h) tag (sym is_b ∙ lacks))

  pub would-see : c ≡ call.Ask → answer.Seen ≡ (step (version_of h) c).answer
  would-see is = told call.Ask _ is (step-seen (version_of h))

pub copied-some : {A : Type 0} (o : Option (Bor A)) → is_some (option_copied o) ≡ is_some o
copied-some None = refl
copied-some (Some x) = refl
